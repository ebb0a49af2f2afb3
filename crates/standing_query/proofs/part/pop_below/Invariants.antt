use Rattle.std.proofs.Common.{◌≡◌}
use Rattle.std.specs.VecDeque.{deque_len}
use Rattle.standing_query.specs.Parts.{NeverFall, groups_from}
use Rattle.standing_query.proofs.part.pop_below.Given as goal

-- what is left has all that stay
abbrev pub invariant-loop-groups : goal.invariant-loop-groups
invariant-loop-groups l = record {
  falls : NeverFall l.groups.items;
  same : groups_from l.horizon l.groups.items ≡ groups_from l.horizon l.initial.groups.items;
}

abbrev pub decreases-loop-groups : goal.decreases-loop-groups
decreases-loop-groups l = deque_len l.groups
