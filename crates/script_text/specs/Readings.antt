-- What holds of what was read, between two lines.
use Rattle.std.specs.Prelude.{◌≡◌, ◌≤◌, List, [], ◌∷◌, ◌++◌}
use Rattle.std.specs.List.{AllByRecursion}
use Rattle.script_text.specs.declared.fleet.FleetShape.{FleetShape}
use Rattle.script_text.specs.declared.item.Item.{Item}
use Rattle.script_text.specs.declared.item.Item.TheVariants as item
use Rattle.script_text.specs.declared.reading.Reading.{Reading}
use Rattle.script_text.specs.declared.script.Script.{Script}
use Rattle.script_text.specs.declared.reading.Position.{Position}
use Rattle.script_text.specs.declared.reading.Position.TheVariants as position
use Rattle.script_text.specs.Commands.{fleet_command, leaf_count}
use Rattle.script_text.specs.Fits.{IsBurst, IsItem, TellAbove, declared_in}

-- the lanes of a burst that is open are those of a burst
abbrev pub IsPosition : FleetShape → Position → Type 0
IsPosition fleet (position.Lane earlier lane) = IsBurst (leaf_count fleet) fleet.names (earlier ++ lane ∷ [])
IsPosition fleet _ = Unit {0}

-- a fleet, and items after it; they tell only standing queries that they declare
pub record Begun (fleet : FleetShape) (script : Script) : Type 0 where
  pub later : List Item
  pub all : script.items ≡ item.One (fleet_command fleet) ∷ later
  pub each : AllByRecursion (IsItem (leaf_count fleet) fleet.names) later
  pub told : TellAbove 0 script.items
  pub declared : script.standings ≡ declared_in script.items
  pub few : script.standings ≤ 16

-- the reading after this fleet
pub record IsReading (fleet : FleetShape) (reading : Reading) : Type 0 where
  pub items : Begun fleet reading.script
  pub position : IsPosition fleet reading.position
