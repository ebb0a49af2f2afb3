use Rattle.std.proofs.Common.{take}
use Rattle.leaf_model.specs.Lent.{each_cells}
use Rattle.row_blocks.specs.Runs.{HoldRests}
use Rattle.row_blocks.proofs.runs.placed_cells.Given as goal

abbrev pub invariant-loop-place : goal.invariant-loop-place
invariant-loop-place l = HoldRests (each_cells (take l.place l.rests)) l.cells.items
