use Rattle.std.proofs.Common.{◌≡◌, ℕ, ◌==◌, ◌++◌, [], length, if◌then◌else◌}
use Rattle.leaf_model.specs.Lent.{lent_cells}
use Rattle.row_blocks.specs.Runs.{row_cells}
use Rattle.row_blocks.proofs.runs.push_row.Given as goal

-- the cells so far and those that are left are those before and those of the row
abbrev pub invariant-loop-cell : goal.invariant-loop-cell
invariant-loop-cell l = (i : ℕ) → row_cells i l.cells.items ++ (if l.place == i then lent_cells l.left else []) ≡ row_cells i l.fn.cells.items ++ (if l.place == i then lent_cells l.rest else [])

abbrev pub decreases-loop-cell : goal.decreases-loop-cell
decreases-loop-cell l = length (lent_cells l.left)
