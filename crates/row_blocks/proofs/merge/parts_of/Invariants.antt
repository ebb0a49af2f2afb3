use Rattle.std.proofs.Common.{◌≡◌, ◌++◌, length}
use Rattle.leaf_model.specs.Lent.{each_cells, lent_rows}
use Rattle.row_blocks.specs.Blocks.{times_of}
use Rattle.row_blocks.specs.Merging.{cells_of_rows}
use Rattle.row_blocks.proofs.merge.parts_of.Given as goal

abbrev pub invariant-loop-row : goal.invariant-loop-row
invariant-loop-row l = record {
  times : l.times.items ++ times_of (lent_rows l.left) ≡ times_of (lent_rows l.rows);
  cells : each_cells l.cells.items ++ cells_of_rows (lent_rows l.left) ≡ cells_of_rows (lent_rows l.rows);
}

abbrev pub decreases-loop-row : goal.decreases-loop-row
decreases-loop-row l = length (lent_rows l.left)
