use Rattle.std.proofs.Common.{rules, ◌∙◌, sym}
use Rattle.row_records.proofs.Behind.{rows_pass, rows_stop, rows_done}
use Rattle.row_records.proofs.row_test.behind_rows.Goals as goal

pub returns-in_err-rest : goal.returns-in_err-rest
returns-in_err-rest c =
    let none = sym c.loop.invariant ∙ rows_stop c.args.count c.loop.counter c.loop.rest.now c.loop-test.true c.in_err-rest.ensures in
    search (rules, none)

pub loop-preserved : goal.loop-preserved
loop-preserved c = sym (rows_pass c.args.count c.loop.counter c.loop.rest.now c.in_ok-rest.rest.now c.loop-test.true c.in_ok-rest.ensures) ∙ c.loop.invariant

pub returns : goal.returns
returns c = sym c.loop.invariant ∙ rows_done c.args.count c.loop.counter c.loop.rest.now c.loop-test.false
