-- What a run may play, standing queries may follow.
use Rattle.std.proofs.Common.{◌≡◌, List, [], ◌∷◌, map, sym, subst}
use Rattle.std.specs.List.{AllByRecursion, flat_map}
use Rattle.row_model.specs.declared.rows.Row.{Row}
use Rattle.row_model.specs.Values.{IsRow, IsTime}
use Rattle.script_text.specs.declared.command.Command.{Command}
use Rattle.script_text.specs.declared.command.Command.TheVariants as command
use Rattle.script_text.specs.declared.item.Item.{Item}
use Rattle.script_text.specs.declared.fleet.FleetShape.{FleetShape}
use Rattle.script_text.specs.Commands.{leaf_count}
use Rattle.script_text.specs.Fits.{IsCommand}
use Rattle.transcript.specs.Pieces.{Played, PlayedItem, One, Burst, commands_in, item_of}
use Rattle.transcript_standing.specs.Followed.{AreTimes, HasTimes, IsOfLane, IsPlayable}
use Rattle.transcript_fleet.proofs.Lists.{All-append, All-weaken}
use Rattle.play.specs.Standing.{MayRun, MayRunAlone}

-- rows have times
row_times : (rows : List Row) → AllByRecursion IsRow rows → AreTimes rows
row_times rows all = All-weaken IsRow (λ (row : Row). IsTime row.time) (λ row is. is.time) rows all

alone_times : (fleet : FleetShape) (c : Command) → MayRunAlone fleet c → HasTimes c
alone_times fleet (command.Add leaf table rows) may = row_times rows may.3
alone_times fleet (command.Tail key table rows) may = row_times rows may.3
alone_times fleet _ may = tt

of_lane : (fleet : FleetShape) (c : Command) → IsCommand (leaf_count fleet) fleet.names c → IsOfLane c
of_lane fleet (command.Standing leaf q) may = absurd may
of_lane fleet (command.Tell standing) may = absurd may
of_lane fleet (command.Add leaf table rows) may = row_times rows may.3
of_lane fleet (command.Tail key table rows) may = row_times rows may.3
of_lane fleet _ may = tt

lane_plays : (fleet : FleetShape) (lane : List Played) → AllByRecursion (IsCommand (leaf_count fleet) fleet.names) (commands_in lane) → AllByRecursion (λ (p : Played). IsOfLane p.command) lane
lane_plays fleet [] all = tt
lane_plays fleet (p ∷ lane) all = (of_lane fleet p.command all.0, lane_plays fleet lane all.1)

lanes_play : (fleet : FleetShape) (lanes : List (List Played)) → AllByRecursion (AllByRecursion (IsCommand (leaf_count fleet) fleet.names)) (map commands_in lanes)
    → AllByRecursion (λ (p : Played). IsOfLane p.command) (flat_map (λ (lane : List Played). lane) lanes)
lanes_play fleet [] all = tt
lanes_play fleet (lane ∷ lanes) all = All-append (λ (p : Played). IsOfLane p.command) lane (flat_map (λ (l : List Played). l) lanes) (lane_plays fleet lane all.0) (lanes_play fleet lanes all.1)

item_plays : (fleet : FleetShape) (p : PlayedItem) → MayRun fleet (item_of p) → IsPlayable p
item_plays fleet (One p) may = alone_times fleet p.command may
item_plays fleet (Burst lanes) may = lanes_play fleet lanes may.each

pub playable : (fleet : FleetShape) (x : Item) (p : PlayedItem) → MayRun fleet x → item_of p ≡ x → IsPlayable p
playable fleet x p may is = item_plays fleet p (subst (MayRun fleet) (sym is) may)
