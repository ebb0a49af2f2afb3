use Rattle.std.proofs.Common.{◌≡◌, ◌≤◌, ◌-◌, ◌++◌, drop, map, take}
use Rattle.std.specs.List.{AllByRecursion}
use Rattle.std.specs.Vec.{vec_capacity, vec_len}
use Rattle.standing_query.specs.Parts.{NeverFall, groups_from}
use Rattle.standing_query.proofs.parts.forget.Given as goal

-- what is left of the parts so far, and then of those that are to come, is all
abbrev pub invariant-loop-i : goal.invariant-loop-i
invariant-loop-i l = record {
  within : l.i ≤ vec_len l.list;
  so_far : take l.i l.list.items ++ map (groups_from l.horizon) (drop l.i l.list.items) ≡ map (groups_from l.horizon) l.fn.list.items;
  falls : AllByRecursion NeverFall (drop l.i l.list.items);
  room : vec_capacity l.list ≡ vec_capacity l.fn.list;
}

abbrev pub decreases-loop-i : goal.decreases-loop-i
decreases-loop-i l = vec_len l.list - l.i
