-- The range of some times.
use Rattle.std.specs.Prelude.{◌≡◌, ℕ, ◌<◌, ◌≤◌, true, List, length, slice_index_or, ℤ, pos, ◌≤ℤ◌}
use Rattle.time_range.specs.declared.times.TimeRange.{TimeRange}

-- the time is one of them
abbrev pub IsAmong : ℤ → List ℤ → Type 0
IsAmong t times = (i : ℕ) × (i < length times) × (slice_index_or times i (pos 0) ≡ t)

-- `from` is the least of the times, and `to` the greatest
pub record IsRange (times : List ℤ) (from to : ℤ) : Type 0 where
  pub within : (i : ℕ) → i < length times → (from ≤ℤ slice_index_or times i (pos 0)) × (slice_index_or times i (pos 0) ≤ℤ to)
  pub first : IsAmong from times
  pub last : IsAmong to times

-- no time is below one before it in the list
abbrev pub NeverFall : List ℤ → Type 0
NeverFall times = (i j : ℕ) → i ≤ j → j < length times → slice_index_or times i (pos 0) ≤ℤ slice_index_or times j (pos 0)

-- the least and the greatest of the times; if they are said to be in order, they never fall
pub record IsRangeOf (times : List ℤ) (range : TimeRange) : Type 0 where
  pub ends : IsRange times range.from range.to
  pub order : range.in_order ≡ true → NeverFall times
