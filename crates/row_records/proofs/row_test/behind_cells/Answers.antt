use Rattle.std.proofs.Common.{rules, ◌∙◌, sym}
use Rattle.row_records.proofs.Behind.{cells_pass, cells_stop, cells_done}
use Rattle.row_records.proofs.row_test.behind_cells.Goals as goal

pub returns-in_err-name : goal.returns-in_err-name
returns-in_err-name c =
    let none = sym c.loop.invariant ∙ cells_stop c.args.count c.loop.counter c.loop.last.now c.loop.rest.now c.loop-test.true c.in_err-name.ensures in
    search (rules, none)

pub loop-preserved : goal.loop-preserved
loop-preserved c =
    let after = c.in_ok-name.after.now in
    let left = sym (cells_pass c.args.count c.loop.counter c.loop.last.now c.loop.rest.now c.in_ok-name.name.now after c.loop-test.true c.in_ok-name.ensures) ∙ c.loop.invariant in
    rw c.as_bytes-last.ensures.value left

pub returns : goal.returns
returns c = sym c.loop.invariant ∙ cells_done c.args.count c.loop.counter c.loop.last.now c.loop.rest.now c.loop-test.false
