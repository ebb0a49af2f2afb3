use Rattle.std.proofs.Common.{◌≡◌, map}
use Rattle.std.specs.List.{range_with_len}
use Rattle.rollover_plan.proofs.Turns.{leaf_at}
use Rattle.rollover_plan.proofs.plan.by_place.Given as goal

abbrev pub invariant-loop-turn : goal.invariant-loop-turn
invariant-loop-turn l = l.leaves.items ≡ map (leaf_at l.machines l.per_machine) (range_with_len 0 l.turn)
