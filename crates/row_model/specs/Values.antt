-- Limits of rows and of what they hold.
use Rattle.std.specs.Prelude.{ℕ, ◌+◌, ◌<◌, ◌≤◌, ◌≢◌, List, [], ◌∷◌, length, map, ℤ, pos, ◌≤ℤ◌, codes, IsUtf8, FitsSigned}
use Rattle.std.specs.List.{AllByRecursion}
use Rattle.std.specs.List.Sorted.{IsStrictlySortedBy}
use Rattle.std.specs.Int.{w64}
use Rattle.std.specs.Ordering.{nat_cmp}
use Rattle.std.specs.Cmp.Lexicographic.{slice_cmp}
use Rattle.row_model.specs.declared.rows.Value.{Value}
use Rattle.row_model.specs.declared.rows.Value.TheVariants.{Int, Text, Set}
use Rattle.row_model.specs.declared.rows.Cell.{Cell}
use Rattle.row_model.specs.declared.rows.Row.{Row}

-- the name that means the row's time
abbrev pub time_name : List ℕ
time_name = codes "time"

-- a time: 0 to 2^63 - 1
abbrev pub IsTime : ℤ → Type 0
IsTime t = (pos 0 ≤ℤ t) × FitsSigned w64 t

-- a cell's name: 1 to 255 bytes of UTF-8, and not `time`
pub record IsCellName (name : List ℕ) : Type 0 where
  pub text : IsUtf8 name
  pub some : 0 < length name
  pub short : length name ≤ 255
  pub other : name ≢ time_name

-- the number of bytes of all texts together
abbrev pub bytes_in : List (List ℕ) → ℕ
bytes_in [] = 0
bytes_in (t ∷ ts) = length t + bytes_in ts

-- a set: at most 1,024 texts, strictly ascending by bytes, with at most 65,535 bytes together; it may be empty
pub record IsSet (members : List (List ℕ)) : Type 0 where
  pub few : length members ≤ 1024
  pub utf8 : AllByRecursion IsUtf8 members
  pub ascending : IsStrictlySortedBy (slice_cmp nat_cmp) members
  pub together : bytes_in members ≤ 65535

-- a value: an i64, a text of at most 65,535 bytes, or a set
abbrev pub IsValue : Value → Type 0
IsValue (Int n) = FitsSigned w64 n
IsValue (Text t) = IsUtf8 t × (length t ≤ 65535)
IsValue (Set members) = IsSet members

pub record IsCell (c : Cell) : Type 0 where
  pub name : IsCellName c.name
  pub value : IsValue c.value

-- a row: a time, and at most 1,024 cells with strictly ascending names
pub record IsRow (row : Row) : Type 0 where
  pub time : IsTime row.time
  pub few : length row.cells ≤ 1024
  pub cells : AllByRecursion IsCell row.cells
  pub ascending : IsStrictlySortedBy (slice_cmp nat_cmp) (map (λ (c : Cell). c.name) row.cells)
