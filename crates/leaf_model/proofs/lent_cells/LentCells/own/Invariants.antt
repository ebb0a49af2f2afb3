use Rattle.std.proofs.Common.{◌≡◌, ◌++◌, length}
use Rattle.leaf_model.specs.Lent.{lent_cells}
use Rattle.leaf_model.proofs.lent_cells.LentCells.own.Given as goal

abbrev pub invariant-loop-first : goal.invariant-loop-first
invariant-loop-first l = l.cells.items ++ lent_cells l.left ≡ lent_cells l.self

abbrev pub decreases-loop-first : goal.decreases-loop-first
decreases-loop-first l = length (lent_cells l.left)
