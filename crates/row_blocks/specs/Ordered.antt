-- Times that never fall, and the place of a horizon among them.
use Rattle.std.specs.Prelude.{◌≡◌, ℕ, ◌<◌, ◌≤◌, true, false, List, length, slice_index_or, ℤ, pos, int_le, Option, IfSome, Vec, IsPermutation}
use Rattle.std.specs.declared.alloc.Global.{Global}
use Rattle.time_range.specs.Ranges.{NeverFall}
use Rattle.row_blocks.specs.Blocks.{Block}
use Rattle.row_blocks.specs.Live.{time_at}

-- from `skip` on, the rows before `place` are below the horizon, and the rows from `place` on are not
pub record IsFirstLive (skip place : ℕ) (horizon : ℤ) (b : Block) : Type 0 where
  pub behind : skip ≤ place
  pub within : place ≤ b.rows
  pub below : (i : ℕ) → skip ≤ i → i < place → int_le horizon (time_at b i) ≡ false
  pub above : (i : ℕ) → place ≤ i → i < b.rows → int_le horizon (time_at b i) ≡ true

-- if there are sorted times, they are a permutation of the times, and never fall
abbrev pub AreSorted : List ℤ → Option (Vec ℤ Global) → Type 0
AreSorted times sorted = IfSome sorted (λ v. IsPermutation times v.items × NeverFall v.items)

-- the times before `place` are below the horizon, and those from `place` on are not
pub record PartsTimes (times : List ℤ) (horizon : ℤ) (place : ℕ) : Type 0 where
  pub within : place ≤ length times
  pub below : (i : ℕ) → i < place → int_le horizon (slice_index_or times i (pos 0)) ≡ false
  pub above : (i : ℕ) → place ≤ i → i < length times → int_le horizon (slice_index_or times i (pos 0)) ≡ true
