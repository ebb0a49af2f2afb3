-- Masks: whether each of a list of rows stays.
use Rattle.std.specs.Prelude.{ℕ, List, [], ◌∷◌, length, map, Bool, ◌&&◌, if◌then◌else◌, ℤ, pos, nat_le, int_le, slice_index_or}
use Rattle.std.specs.List.{range_with_len}
use Rattle.row_model.specs.declared.rows.Row.{Row}

-- a row stays if it is not among the first `skip`, and its time is at least the horizon
abbrev pub stays_at : List ℤ → ℕ → ℤ → ℕ → Bool
stays_at times skip horizon place = nat_le skip place && int_le horizon (slice_index_or times place (pos 0))

-- the mask of rows with these times
abbrev pub mask_of : List ℤ → ℕ → ℤ → List Bool
mask_of times skip horizon = map (stays_at times skip horizon) (range_with_len 0 (length times))

-- the times of rows
abbrev pub times_of : List Row → List ℤ
times_of rows = map (λ (row : Row). row.time) rows

-- the rows that a mask leaves
abbrev pub rows_left : List Bool → List Row → List Row
rows_left [] rows = []
rows_left (stays ∷ mask) [] = []
rows_left (stays ∷ mask) (row ∷ rows) = if stays then row ∷ rows_left mask rows else rows_left mask rows
