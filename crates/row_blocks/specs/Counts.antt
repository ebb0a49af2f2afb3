-- The counts of the cells at each place, after one more column.
use Rattle.std.specs.Prelude.{◌≡◌, ℕ, ◌+◌, ◌<◌, ◌≤◌, Bool, true, List, length, slice_index}
use Rattle.std.specs.Int.{from_bool}

-- each count rises by one where the column has a cell, and none passes 1,024
pub record AreCounted (has : ℕ → Bool) (old new : List ℕ) : Type 0 where
  pub each : (i : ℕ) → i < length old → slice_index new i ≡ slice_index old i + from_bool (has i)
  pub few : (i : ℕ) → i < length old → slice_index new i ≤ 1024

-- at some place the column has a cell more than a row may have
pub record IsOver (has : ℕ → Bool) (old : List ℕ) : Type 0 where
  pub place : ℕ
  pub inside : place < length old
  pub there : has place ≡ true
  pub full : 1024 ≤ slice_index old place
