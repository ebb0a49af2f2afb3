-- Bytes as one number, and a bit string that is being written.
use Rattle.std.specs.Prelude.{ℕ, ◌+◌, ◌*◌, ◌^◌, ◌<◌, List, [], ◌∷◌, slice_index}

-- bytes as one number, the least byte first
abbrev pub number : List ℕ → ℕ
number [] = 0
number (b ∷ bytes) = b + 256 * number bytes

-- each is a byte
abbrev pub AreBytes : List ℕ → Type 0
AreBytes bytes = (i : ℕ) → slice_index bytes i < 256

-- the bits that were written, as a number, and how many they are
pub record WrittenBits : Type 0 where
  pub value : ℕ
  pub bits : ℕ

-- whole bytes, and after them fewer than 64 bits that wait
pub record AreWaiting (bytes : List ℕ) (waiting count : ℕ) : Type 0 where
  pub each : AreBytes bytes
  pub few : count < 64
  pub below : waiting < 2 ^ count
