-- The invariant of a view of a column.
use Rattle.std.specs.Prelude.{◌≡◌, ℕ, ◌<◌, ◌≤◌, List, Option, IfSome}
use Rattle.bit_columns.specs.Bits.{BitString, PackedCodes}
use Rattle.column_bytes.specs.declared.form.Form.{Form}
use Rattle.column_bytes.specs.Cells.{coded_of, IsExtra, AreCodes}
use Rattle.column_bytes.specs.Next.{AreBitsOf}

pub record IsHeldColumn (form : Form) (n : ℕ) (bits : Option BitString) (presence_bytes : List ℕ) (packed : PackedCodes) (part : List ℕ) : Type 0 where
  pub some : 0 < n
  pub few : n ≤ 65536
  pub presence : IfSome bits (λ found. found.count ≡ n)
  pub presence_in : IfSome bits (AreBitsOf n presence_bytes)
  pub codes : packed.count ≡ n
  pub extra : IsExtra form n part
  pub each : AreCodes (coded_of form n bits packed part)
