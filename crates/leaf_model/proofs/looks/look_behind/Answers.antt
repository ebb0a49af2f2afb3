use Rattle.std.proofs.Common.{rules, ◌-◌, ◌+◌, ◌∙◌, sym, ap, arith}
use Rattle.leaf_model.specs.Lent.{each_value}
use Rattle.leaf_model.specs.Fronts.{any_cell_at, any_cells_at, front_of}
use Rattle.leaf_model.specs.Looks.{filled}
use Rattle.leaf_model.proofs.LentLaws.{cell_first, cells_pass, cells_done, passed_all, some_of}
use Rattle.leaf_model.proofs.SeenLaws.{all_kept, cell_there, next_cell, no_cells}
use Rattle.leaf_model.proofs.looks.look_behind.Goals as goal

pub look_cell-rest-requires-clause-cell : goal.look_cell-rest-requires-clause-cell
look_cell-rest-requires-clause-cell c = cell_first (c.args.count - c.loop.counter) c.loop.rest.now (omega (arith, c.loop-test.true)) c.loop.invariant.passes.some

pub loop-preserved : goal.loop-preserved
loop-preserved c =
    let left = c.args.count - c.loop.counter in
    let first = cell_first left c.loop.rest.now (omega (arith, c.loop-test.true)) c.loop.invariant.passes.some in
    let cell = some_of (any_cell_at c.loop.rest.now) first in
    let looked = c.look_cell-rest.ensures.looked cell.0 cell.1 in
    let after = c.look_cell-rest.result.now in
    let there = cell_there (any_cell_at c.loop.rest.now) cell.0 after cell.1 looked.0 in
    record {
      passes = cells_pass c.args.count c.loop.counter c.loop.rest.now cell.0.0 after (any_cells_at c.args.count c.args.bytes.now) c.loop-test.true there c.loop.invariant.passes;
      same = c.look_cell-rest.ensures.same;
      filled =
          looked.1 (front_of (any_cells_at (c.args.count - (c.loop.counter + 1)) after))
          ∙ ap (filled c.args.sought.now (each_value c.loop.seen.items)) (sym (next_cell c.args.count c.loop.counter c.loop.rest.now cell.0.0 after c.loop-test.true c.loop.invariant.passes.some there))
          ∙ c.loop.invariant.filled;
    }

pub returns-clause-rest : goal.returns-clause-rest
returns-clause-rest c =
    let total = any_cells_at c.args.count c.args.bytes.now in
    passed_all c.loop.rest.now (any_cells_at (c.args.count - c.loop.counter) c.loop.rest.now) total c.requires.cells (cells_done c.args.count c.loop.counter c.loop.rest.now c.loop-test.false) c.loop.invariant.passes

pub returns-clause-filled : goal.returns-clause-filled
returns-clause-filled c =
    sym (all_kept c.args.sought.now (each_value c.loop.seen.items) (no_cells c.loop.seen.items c.args.sought.now (search (rules, c.loop.invariant.same))))
    ∙ ap (filled c.args.sought.now (each_value c.loop.seen.items)) (sym (ap front_of (cells_done c.args.count c.loop.counter c.loop.rest.now c.loop-test.false)))
    ∙ c.loop.invariant.filled
