-- To whom a command is addressed.
use Rattle.std.specs.Prelude.{◌<◌, ◌==◌, ℕ, List, length, Bool, true, false, ⊤}
use Rattle.std.specs.List.{Contains, list_any}
use Rattle.script_text.specs.declared.command.Aim as lent
use Rattle.script_text.specs.declared.command.Aim.TheVariants as aim
use Rattle.script_text.specs.declared.command.Command.{Command}
use Rattle.script_text.specs.declared.order.Order.{Order}
use Rattle.script_text.specs.declared.order.Order.TheVariants as order
use Rattle.script_text.specs.declared.order.Part.{Part}
use Rattle.script_text.specs.declared.order.Part.TheVariants as part
use Rattle.script_text.specs.Orders.{part_of}
use Rattle.script_text.specs.Stewards.{has_steward, has_stewards}

-- the whole fleet, which it begins; callers of the table in this place; callers of the table of this name at every
-- leaf; the steward of this leaf; the steward of each leaf; the run alone
pub data Aim : Type 0 where
  AtFleet : Aim
  AtTable : (table : ℕ) → Aim
  AtNamed : (name : List ℕ) → Aim
  AtLeaf : (leaf : ℕ) → Aim
  AtLeaves : Aim
  AtRun : Aim

abbrev pub aim_of_order : Order → Aim
aim_of_order order.Start = AtFleet
aim_of_order (order.Call leaf table r) = AtTable table
aim_of_order (order.Deed leaf d) = AtLeaf leaf
aim_of_order (order.Query q) = AtNamed q.table
aim_of_order (order.Tail key table rows) = AtTable table
aim_of_order (order.Rollover percent) = AtLeaves

abbrev pub aim_of_part : Part → Aim
aim_of_part (part.Leaves o) = aim_of_order o
aim_of_part (part.Run o) = AtRun

-- to whom a command is addressed
abbrev pub aim_of : Command → Aim
aim_of c = aim_of_part (part_of c)

-- the same, with a name that is lent
abbrev pub aim_in : lent.Aim → Aim
aim_in aim.Fleet = AtFleet
aim_in (aim.Table table) = AtTable table
aim_in (aim.Named name) = AtNamed name.now
aim_in (aim.Leaf leaf) = AtLeaf leaf
aim_in aim.Leaves = AtLeaves
aim_in aim.Run = AtRun

-- an aim at tables or leaves that a fleet has, with this number of leaves and these tables
abbrev pub IsAim : ℕ → List (List ℕ) → Aim → Type 0
IsAim leaves tables AtFleet = ⊥
IsAim leaves tables (AtTable table) = table < length tables
IsAim leaves tables (AtNamed name) = Contains tables name
IsAim leaves tables (AtLeaf leaf) = leaf < leaves
IsAim leaves tables AtLeaves = ⊤
IsAim leaves tables AtRun = ⊥

-- it is addressed to this leaf's steward
abbrev pub is_for_steward : ℕ → Aim → Bool
is_for_steward leaf (AtLeaf number) = number == leaf
is_for_steward leaf AtLeaves = true
is_for_steward leaf _ = false

-- it is addressed to some leaf's steward
abbrev pub is_for_some_steward : Aim → Bool
is_for_some_steward (AtLeaf number) = true
is_for_some_steward AtLeaves = true
is_for_some_steward _ = false

-- one of these lanes has a command for a steward that it is addressed to
abbrev pub is_second_for : List (List Command) → Aim → Bool
is_second_for lanes (AtLeaf leaf) = list_any (has_steward leaf) lanes
is_second_for lanes AtLeaves = list_any has_stewards lanes
is_second_for lanes _ = false
