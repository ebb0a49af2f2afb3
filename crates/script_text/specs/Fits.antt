-- What a caller knows of a script that was read.
use Rattle.std.specs.Prelude.{◌≡◌, ◌+◌, ◌*◌, ◌^◌, ◌<◌, ◌≤◌, ℕ, ⊤, List, [], ◌∷◌, length, true, IsUtf8, IfSome}
use Rattle.std.specs.List.{AllByRecursion, Contains, filter}
use Rattle.row_model.specs.Values.{IsRow, IsTime}
use Rattle.row_model.specs.Names.{AreDistinct, is_table_name}
use Rattle.query_text.specs.Grammar.{IsQuery}
use Rattle.script_text.specs.declared.command.Command.{Command}
use Rattle.script_text.specs.declared.command.Command.TheVariants.{Fleet, Add, Expire, Keep, Tail, Flush, Drain, Kill, Start, Rollover, Standing, Tell}
use Rattle.script_text.specs.declared.command.Command.TheVariants as command
use Rattle.script_text.specs.declared.item.Item.{Item}
use Rattle.script_text.specs.declared.item.Item.TheVariants.{One, Burst}
use Rattle.script_text.specs.declared.script.Script.{Script}
use Rattle.script_text.specs.Stewards.{has_steward}

-- a table's name, which is UTF-8 of 1 to 64 bytes
pub record IsTableName (name : List ℕ) : Type 0 where
  pub spelling : is_table_name name ≡ true
  pub utf8 : IsUtf8 name
  pub some : 0 < length name
  pub short : length name ≤ 64

-- 1 to 16 distinct names
pub record AreTables (tables : List (List ℕ)) : Type 0 where
  pub some : 0 < length tables
  pub few : length tables ≤ 16
  pub names : AllByRecursion IsTableName tables
  pub distinct : AreDistinct tables

-- a command that may stand in a burst too, for a fleet of this number of leaves with these tables
abbrev pub IsCommand : ℕ → List (List ℕ) → Command → Type 0
IsCommand leaves tables (Fleet machines per_machine names) = ⊥
IsCommand leaves tables (Add leaf table rows) = (leaf < leaves) × (table < length tables) × (length rows ≤ 100000) × AllByRecursion IsRow rows
IsCommand leaves tables (Expire leaf table horizon) = (leaf < leaves) × (table < length tables) × IsTime horizon
IsCommand leaves tables (Keep leaf table n) = (leaf < leaves) × (table < length tables)
IsCommand leaves tables (command.Query query) = Contains tables query.table × IsQuery query
IsCommand leaves tables (Tail key table rows) = (key < 2 ^ 64) × (table < length tables) × (length rows ≤ 100000) × AllByRecursion IsRow rows
IsCommand leaves tables (Flush leaf table) = (leaf < leaves) × (table < length tables)
IsCommand leaves tables (Drain leaf stop) = (leaf < leaves) × IfSome stop (λ n. n ≤ 1000000)
IsCommand leaves tables (Kill leaf) = leaf < leaves
IsCommand leaves tables (Start leaf) = leaf < leaves
IsCommand leaves tables (Rollover percent) = (0 < percent) × (percent ≤ 100)
IsCommand leaves tables (Standing leaf query) = ⊥
IsCommand leaves tables (Tell number) = ⊥

-- a command outside bursts: one that a burst may have too, a standing query, or a tell
abbrev pub IsAlone : ℕ → List (List ℕ) → Command → Type 0
IsAlone leaves tables (Standing leaf query) = (leaf < leaves) × Contains tables query.table × IsQuery query
IsAlone leaves tables (Tell number) = ⊤
IsAlone leaves tables c = IsCommand leaves tables c

-- at least one machine, at least one leaf on each, and at most 256 leaves in all
pub record AreLeaves (machines per_machine : ℕ) : Type 0 where
  pub some_machines : 0 < machines
  pub some_leaves : 0 < per_machine
  pub few : machines * per_machine ≤ 256

-- for each leaf at most one of these lanes has commands for its steward
abbrev pub OneSteward : List (List Command) → Type 0
OneSteward lanes = (leaf : ℕ) → length (filter (has_steward leaf) lanes) ≤ 1

-- 1 to 16 lanes of a burst
pub record IsBurst (leaves : ℕ) (tables : List (List ℕ)) (lanes : List (List Command)) : Type 0 where
  pub some : 0 < length lanes
  pub few : length lanes ≤ 16
  pub each : AllByRecursion (AllByRecursion (IsCommand leaves tables)) lanes
  pub stewards : OneSteward lanes

-- an item after a fleet of this number of leaves with these tables
abbrev pub IsItem : ℕ → List (List ℕ) → Item → Type 0
IsItem leaves tables (One c) = IsAlone leaves tables c
IsItem leaves tables (Burst lanes) = IsBurst leaves tables lanes

-- the items after the first command, which is a fleet
abbrev pub AreBehind : Command → List Item → Type 0
AreBehind (Fleet machines per_machine tables) items = AreLeaves machines per_machine × AreTables tables × AllByRecursion (IsItem (machines * per_machine) tables) items
AreBehind _ items = ⊥

-- the first item is a fleet, and no other is
abbrev pub AreItems : List Item → Type 0
AreItems [] = Unit {0}
AreItems (One c ∷ items) = AreBehind c items
AreItems (Burst lanes ∷ items) = ⊥

-- the number of standing queries that an item declares
abbrev pub declared_by : Item → ℕ
declared_by (One (Standing leaf query)) = 1
declared_by _ = 0

abbrev pub declared_in : List Item → ℕ
declared_in [] = 0
declared_in (item ∷ items) = declared_by item + declared_in items

-- the number of the standing query that it tells is below n
abbrev pub TellsDeclared : ℕ → Item → Type 0
TellsDeclared declared (One (Tell number)) = number < declared
TellsDeclared declared _ = ⊤

-- each standing query that is told was declared before; n were declared before the first item
abbrev pub TellAbove : ℕ → List Item → Type 0
TellAbove declared [] = ⊤
TellAbove declared (item ∷ items) = TellsDeclared declared item × TellAbove (declared + declared_by item) items

-- a script that was read
pub record IsScript (script : Script) : Type 0 where
  pub items : AreItems script.items
  pub told : TellAbove 0 script.items
  pub few : declared_in script.items ≤ 16
