use Rattle.std.proofs.Common.{◌-◌, arith}
use Rattle.leaf_model.specs.Lent.{lent_cell}
use Rattle.leaf_model.specs.Fronts.{any_cells_at}
use Rattle.leaf_model.proofs.LentLaws.{cell_first, cells_pass, cells_done, passed_all}
use Rattle.leaf_model.proofs.lent_cells.behind_cells.Goals as goal

pub cell_in-requires : goal.cell_in-requires
cell_in-requires c = cell_first (c.args.count - c.loop.counter) c.loop.rest.now (omega (arith, c.loop-test.true)) c.loop.invariant.some

pub loop-preserved : goal.loop-preserved
loop-preserved c = cells_pass c.args.count c.loop.counter c.loop.rest.now (lent_cell c.cell_in.result.0) c.cell_in.result.1.now (any_cells_at c.args.count c.args.bytes.now) c.loop-test.true c.cell_in.ensures c.loop.invariant

pub returns : goal.returns
returns c =
    let total = any_cells_at c.args.count c.args.bytes.now in
    passed_all c.loop.rest.now (any_cells_at (c.args.count - c.loop.counter) c.loop.rest.now) total c.requires (cells_done c.args.count c.loop.counter c.loop.rest.now c.loop-test.false) c.loop.invariant
