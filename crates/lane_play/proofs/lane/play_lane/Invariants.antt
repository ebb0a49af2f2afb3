use Rattle.std.proofs.Common.{◌≡◌, ◌++◌, List, map, Some}
use Rattle.std.specs.List.{AllByRecursion}
use Rattle.std.specs.VecDeque.{deque_len}
use Rattle.script_text.specs.declared.command.Command.{Command}
use Rattle.player.specs.Crew.{AllPass, StillHas}
use Rattle.lane_play.specs.Played.{MayPlayOn}
use Rattle.lane_play.specs.Went.{LaneWent}
use Rattle.lane_play.proofs.lane.play_lane.Given as goal

-- some commands were played, and the others are left
abbrev pub invariant-loop-command : goal.invariant-loop-command
invariant-loop-command g l = record {
  done : List Command;
  all : done ++ l.rest.items ≡ l.fn.commands.items;
  went : LaneWent g.B.Berth.meaning l.initial.crew.fleet done l.initial.crew.holds (map (λ b. (goal.Watch-dyn g (b.vtable, b.value)).held b.value) l.initial.watches.items) (Some l.lines.items) l.crew.holds
      (map (λ b. (goal.Watch-dyn g (b.vtable, b.value)).held b.value) l.watches.items);
  may : AllByRecursion (MayPlayOn l.initial.crew.fleet l.crew.holds) l.rest.items;
  fleet : l.crew.fleet ≡ l.initial.crew.fleet;
  tables : l.crew.tables ≡ l.initial.crew.tables;
  still : StillHas l.initial.crew.holds l.crew.holds;
  time : AllPass g.B.Berth.meaning l.initial.crew.holds l.crew.holds;
}

abbrev pub decreases-loop-command : goal.decreases-loop-command
decreases-loop-command g l = deque_len l.rest
