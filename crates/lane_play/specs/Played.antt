-- Commands that a lane may play.
use Rattle.std.specs.Prelude.{List}
use Rattle.script_text.specs.declared.command.Command.{Command}
use Rattle.script_text.specs.Fits.{IsCommand}
use Rattle.script_text.specs.declared.fleet.FleetShape.{FleetShape}
use Rattle.script_text.specs.Commands.{leaf_count}
use Rattle.leaf_moves.specs.Holds.{Hold}
use Rattle.player.specs.Crew.{HasFor}

-- a command of a lane; all that it needs is held
abbrev pub MayPlayOn : {B : Type 0} → FleetShape → List (Hold B) → Command → Type 0
MayPlayOn fleet xs c = IsCommand (leaf_count fleet) fleet.names c × HasFor fleet xs c
