-- Bit strings, and the codes that stand in them one after the other.
use Rattle.std.specs.Prelude.{◌≡◌, ℕ, zero, suc, ◌+◌, ◌*◌, ◌/◌, ◌%◌, ◌<◌, ◌≤◌, ◌==◌, Bool, List, length, map, slice_index}
use Rattle.std.specs.List.{range_with_len}
use Rattle.std.specs.Int.{bit_at, div_ceil}

-- bit b of the bytes; the bits of a byte count from its least
abbrev pub bit : List ℕ → ℕ → ℕ
bit bytes b = bit_at (slice_index bytes (b / 8)) (b % 8)

-- the w bits from bit `from` on as a number, the least bit first
unfoldable pub bits_from : List ℕ → ℕ → ℕ → ℕ
bits_from bytes from zero = 0
bits_from bytes from (suc w) = bit bytes from + 2 * bits_from bytes (from + 1) w

-- code i of w bits: the bits from i * w on
abbrev pub code : List ℕ → ℕ → ℕ → ℕ
code bytes w i = bits_from bytes (i * w) w

-- the first n codes of w bits
abbrev pub codes : List ℕ → ℕ → ℕ → List ℕ
codes bytes w n = map (code bytes w) (range_with_len 0 n)

-- whether bit b is 1
abbrev pub is_present : List ℕ → ℕ → Bool
is_present bytes b = bit bytes b == 1

-- whether each of the first n bits is 1
abbrev pub presence : List ℕ → ℕ → List Bool
presence bytes n = map (is_present bytes) (range_with_len 0 n)

-- the bytes are as many as `bits` bits take, and the spare bits of the last are 0
pub record IsBits (bytes : List ℕ) (bits : ℕ) : Type 0 where
  pub whole : length bytes ≡ div_ceil bits 8
  pub spare : (b : ℕ) → bits ≤ b → b < 8 * length bytes → bit bytes b ≡ 0

-- `count` codes of `width` bits, in these bytes
pub record PackedCodes : Type 0 where
  pub bytes : List ℕ
  pub count : ℕ
  pub width : ℕ

-- `count` bits, in these bytes
pub record BitString : Type 0 where
  pub bytes : List ℕ
  pub count : ℕ
