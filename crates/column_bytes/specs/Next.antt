-- The first place from a given one on that has a property.
use Rattle.std.specs.Prelude.{◌≡◌, ℕ, ◌*◌, ◌<◌, ◌≤◌, Bool, true, false, List, length, Option, Some, None}
use Rattle.bit_columns.specs.Bits.{BitString}

-- no place in `from..to` has it
abbrev pub HasNone : (ℕ → Bool) → ℕ → ℕ → Type 0
HasNone has from to = (i : ℕ) → from ≤ i → i < to → has i ≡ false

-- p is the first place in `from..to` that has it
pub record IsFirst (has : ℕ → Bool) (from to p : ℕ) : Type 0 where
  pub behind : from ≤ p
  pub inside : p < to
  pub there : has p ≡ true
  pub between : HasNone has from p

-- the first place in `from..to` that has it; None if none has
abbrev pub TellsFirst : (ℕ → Bool) → ℕ → ℕ → Option ℕ → Type 0
TellsFirst has from to None = HasNone has from to
TellsFirst has from to (Some p) = IsFirst has from to p

-- the bytes that hold the presence bits of n cells
pub record AreBitsOf (n : ℕ) (bytes : List ℕ) (bits : BitString) : Type 0 where
  pub count : bits.count ≡ n
  pub bytes_are : bits.bytes ≡ bytes
  pub whole : n ≤ 8 * length bytes
