-- Short lines of printable bytes.
use Rattle.std.specs.Prelude.{ℕ, ◌≤◌, List, take}
use Rattle.std.specs.List.{AllByRecursion}

-- each byte is printable, so none ends a line
abbrev pub ArePrintable : List ℕ → Type 0
ArePrintable bytes = AllByRecursion (λ byte. (32 ≤ byte) × (byte ≤ 126)) bytes

-- the first `len` bytes are a line
pub record IsLine (len : ℕ) (bytes : List ℕ) : Type 0 where
  pub short : len ≤ 80
  pub printable : ArePrintable (take len bytes)
