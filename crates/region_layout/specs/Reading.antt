-- Reading from left to right. A field is a value and the bytes after it, or None.
use Rattle.std.specs.Prelude.{ℕ, ◌^◌, List, nat_lt, if◌then◌else◌, Option, Some, None}
use Rattle.std.specs.Int.{w64}
use Rattle.leaf_model.specs.Reading.{◌>>=◌, number_at}

-- a number below 2^63
unfoldable pub below_2_63_at : List ℕ → Option (ℕ × List ℕ)
below_2_63_at bytes = do
  n ← number_at w64 bytes
  if nat_lt n.0 (2 ^ 63) then Some (n.0, n.1) else None
