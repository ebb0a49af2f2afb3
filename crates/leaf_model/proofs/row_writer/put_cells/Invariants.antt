use Rattle.std.proofs.Common.{◌≡◌, ◌++◌, length}
use Rattle.std.specs.List.{flat_map, AllByRecursion}
use Rattle.leaf_model.specs.Bytes.{cell_bytes, BeginsWith}
use Rattle.row_model.specs.Values.{IsCell}
use Rattle.leaf_model.specs.Lent.{lent_cells}
use Rattle.leaf_model.proofs.row_writer.put_cells.Given as goal

abbrev pub invariant-loop-first : goal.invariant-loop-first
invariant-loop-first l = record {
  fit : AllByRecursion IsCell (lent_cells l.left);
  put : l.out.items ++ flat_map cell_bytes (lent_cells l.left) ≡ l.initial.out.items ++ flat_map cell_bytes (lent_cells l.cells);
  begins : BeginsWith l.initial.out.items l.out.items;
}

abbrev pub decreases-loop-first : goal.decreases-loop-first
decreases-loop-first l = length (lent_cells l.left)
