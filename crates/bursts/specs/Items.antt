-- Items of a script that a crew plays.
use Rattle.script_text.specs.declared.item.Item.{Item}
use Rattle.script_text.specs.declared.item.Item.TheVariants.{One, Burst}
use Rattle.script_text.specs.Fits.{IsBurst}
use Rattle.script_text.specs.declared.fleet.FleetShape.{FleetShape}
use Rattle.script_text.specs.Commands.{leaf_count}
use Rattle.leaf_moves.specs.Plays.{MayPlay}

-- an item that this fleet may play
abbrev pub MayPlayItem : FleetShape → Item → Type 0
MayPlayItem fleet (One c) = MayPlay fleet c
MayPlayItem fleet (Burst lanes) = IsBurst (leaf_count fleet) fleet.names lanes
