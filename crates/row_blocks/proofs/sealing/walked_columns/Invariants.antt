use Rattle.leaf_model.specs.Lent.{each_cells, lent_rows}
use Rattle.row_blocks.specs.Merging.{AreTaken}
use Rattle.row_blocks.proofs.sealing.walked_columns.Given as goal

abbrev pub invariant-loop-walk : goal.invariant-loop-walk
invariant-loop-walk l = AreTaken (lent_rows l.rows) l.columns.items (each_cells l.rests.items)
