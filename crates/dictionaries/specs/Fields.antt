-- Little-endian numbers in the bytes of a column.
use Rattle.std.specs.Prelude.{ℕ, List, drop, ℤ}
use Rattle.std.specs.Int.{w64, cast_signed}
use Rattle.byteorder.specs.Endian.{little_number}

-- the u32 at offset `at`
unfoldable pub u32_at : List ℕ → ℕ → ℕ
u32_at bytes at = little_number 4 (drop at bytes)

-- the u64 at offset `at`
unfoldable pub u64_at : List ℕ → ℕ → ℕ
u64_at bytes at = little_number 8 (drop at bytes)

-- the i64 at offset `at`
abbrev pub i64_at : List ℕ → ℕ → ℤ
i64_at bytes at = cast_signed w64 (u64_at bytes at)
