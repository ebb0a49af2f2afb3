-- Members that are tested one by one, as they come.
use Rattle.std.specs.Prelude.{◌≡◌, ℕ, ◌≤◌, ℤ, List, Option, Some, None, option_map, option_and_then, Ok, IfSome}
use Rattle.json.specs.Token.{Token}
use Rattle.serde_json.specs.Data.{Data, null, number, string, object, Members, no_members, member, put}
use Rattle.serde_json.specs.Find.{as_i64, as_number}
use Rattle.serde_json.specs.Read.{number_of}
use Rattle.row_model.specs.declared.rows.Cell.{Cell}
use Rattle.row_json.specs.Row.{cell_of, cell_count, not_negative, time_of}

-- the value of a token that is a number, a string or null
abbrev pub data_of : Token → Option Data
data_of (Token.number s) = option_map number (number_of s)
data_of (Token.string s) = Some (string s)
data_of Token.null = Some null
data_of other = None

-- the integer that a value is, if it is at least 0
abbrev pub natural_of : Data → Option ℤ
natural_of d = option_and_then not_negative (option_and_then as_i64 (as_number d))

-- the member is the time, a cell or a null, but no fault
abbrev pub HasNoFault : List ℕ → Data → Type 0
HasNoFault name d = (cell : Option Cell) × (cell_of name d ≡ Ok cell)

-- no member is a fault
abbrev pub AreFine : Members → Type 0
AreFine no_members = Unit {0}
AreFine (member name d rest) = HasNoFault name d × AreFine rest

-- if a time is known, it is that of the members
abbrev pub Knows : Option ℤ → Members → Type 0
Knows time all = IfSome time (λ t. time_of (object all) ≡ Some t)

-- the members are those of a row with this time
pub record AreOfRow (time : ℤ) (all : Members) : Type 0 where
  pub known : time_of (object all) ≡ Some time
  pub fine : AreFine all
  pub few : cell_count all ≤ 1024
