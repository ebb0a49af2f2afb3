use Rattle.std.proofs.Common.{◌≡◌, ◌++◌, map}
use Rattle.std.specs.List.{AllByRecursion}
use Rattle.std.specs.VecDeque.{deque_len}
use Rattle.script_text.specs.Fits.{IsCommand}
use Rattle.script_text.specs.Commands.{leaf_count}
use Rattle.bursts.specs.Needs.{IsLanePlan, planned_commands}
use Rattle.bursts.proofs.plans.plan_all.Given as goal

-- some lanes are planned, and the others are left
abbrev pub invariant-loop-lane : goal.invariant-loop-lane
invariant-loop-lane g l = record {
  all : map planned_commands l.plans.items ++ l.rest.items ≡ l.fn.lanes.items;
  each : AllByRecursion (IsLanePlan l.crew.fleet) l.plans.items;
  may : AllByRecursion (AllByRecursion (IsCommand (leaf_count l.crew.fleet) l.crew.fleet.names)) l.rest.items;
}

abbrev pub decreases-loop-lane : goal.decreases-loop-lane
decreases-loop-lane g l = deque_len l.rest
