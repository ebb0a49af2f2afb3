-- Laws of masks and cuts, as statements.
use Rattle.std.specs.Prelude.{◌≡◌, ℕ, ◌-◌, List, length, take, drop, ℤ}
use Rattle.std.specs.Int.{int_max}
use Rattle.row_model.specs.declared.rows.Row.{Row}
use Rattle.leaf_model.specs.Content.{rows_from, last_rows}
use Rattle.expiry.specs.Masks.{mask_of, rows_left, times_of}

-- a mask leaves the rows after the cut whose time is at least the horizon
abbrev pub MasksLeave : Type 0
MasksLeave = (rows : List Row) (skip : ℕ) (horizon : ℤ) → rows_left (mask_of (times_of rows) skip horizon) rows ≡ rows_from horizon (drop skip rows)

-- a greater horizon leaves the same rows, whether the lesser one was applied before or not
abbrev pub HorizonsExpire : Type 0
HorizonsExpire = (rows : List Row) (before horizon : ℤ) → rows_from (int_max before horizon) (rows_from before rows) ≡ rows_from (int_max before horizon) rows

-- if the rows up to the new cut have as many rows that stay as are to go, the last n of these are left after it
abbrev pub CutsKeep : Type 0
CutsKeep = (rows : List Row) (horizon : ℤ) (n cut : ℕ) → length (rows_from horizon (take cut rows)) ≡ length (rows_from horizon rows) - n → rows_from horizon (drop cut rows) ≡ last_rows n (rows_from horizon rows)
