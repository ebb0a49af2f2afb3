use Rattle.std.proofs.Common.{ℕ, ◌<◌}
use Rattle.row_blocks.specs.Blocks.{cells_at}
use Rattle.row_blocks.specs.Places.{FitARow}
use Rattle.row_blocks.proofs.places.fit_each_row.Given as goal

abbrev pub invariant-loop-i : goal.invariant-loop-i
invariant-loop-i l = (k : ℕ) → k < l.i → FitARow (cells_at k l.columns)
