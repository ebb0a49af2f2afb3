-- Rows that are not late.
use Rattle.std.proofs.Common.{◌≤◌, ℤ, List, length, arith}
use Rattle.std.specs.Prelude.{int_le}
use Rattle.std.proofs.lemmas.List.Sums.{count_by-le-length, length-filter}
use Rattle.row_model.specs.declared.rows.Row.{Row}
use Rattle.leaf_model.specs.Content.{rows_from}

-- they are no more than all
pub few_from : (horizon : ℤ) (rows : List Row) → length (rows_from horizon rows) ≤ length rows
few_from horizon rows = omega (arith, length-filter (λ (row : Row). int_le horizon row.time) rows, count_by-le-length (λ (row : Row). int_le horizon row.time) rows)
