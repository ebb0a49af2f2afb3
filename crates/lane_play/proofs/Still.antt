-- A command that may be played, by a crew that still has what it needs.
use Rattle.std.proofs.Common.{List, [], ◌∷◌}
use Rattle.std.specs.List.{AllByRecursion}
use Rattle.script_text.specs.declared.command.Command.{Command}
use Rattle.script_text.specs.declared.command.Command.TheVariants as command
use Rattle.script_text.specs.Aims.{Aim, AtFleet, AtLeaf, AtLeaves, AtNamed, AtRun, AtTable, aim_of}
use Rattle.script_text.specs.Fits.{IsCommand}
use Rattle.script_text.specs.declared.fleet.FleetShape.{FleetShape}
use Rattle.script_text.specs.Commands.{leaf_count}
use Rattle.transcript.specs.Pieces.{place_among}
use Rattle.leaf_moves.specs.Holds.{Hold}
use Rattle.leaf_moves.specs.Plays.{MayPlay}
use Rattle.player.specs.Crew.{HasAimed, HasFor, StillHas}
use Rattle.lane_play.specs.Played.{MayPlayOn}
use Rattle.lane_play.proofs.Held.{still_leaf, still_seats}

pub may_play : (fleet : FleetShape) (c : Command) → IsCommand (leaf_count fleet) fleet.names c → MayPlay fleet c
may_play fleet (command.Fleet machines per_machine tables) is = absurd is
may_play fleet _ is = is

module _ {B : Type 0} (fleet : FleetShape) (xs ys : List (Hold B)) (still : StillHas xs ys) where
  still_aimed : (aim : Aim) → HasAimed fleet xs aim → HasAimed fleet ys aim
  still_aimed AtFleet has = λ leaf. still_leaf xs ys still leaf (has leaf)
  still_aimed (AtTable table) has = still_seats xs ys still table has
  still_aimed (AtNamed name) has = still_seats xs ys still (place_among name fleet.names) has
  still_aimed (AtLeaf leaf) has = still_leaf xs ys still leaf has
  still_aimed AtLeaves has = λ leaf below. still_leaf xs ys still leaf (has leaf below)
  still_aimed AtRun has = tt

  pub still_for : (c : Command) → HasFor fleet xs c → HasFor fleet ys c
  still_for c = still_aimed (aim_of c)

  pub still_may : (cs : List Command) → AllByRecursion (MayPlayOn fleet xs) cs → AllByRecursion (MayPlayOn fleet ys) cs
  still_may [] may = tt
  still_may (c ∷ cs) may = ((may.0.0, still_for c may.0.1), still_may cs may.1)
