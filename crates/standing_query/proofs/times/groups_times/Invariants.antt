use Rattle.std.proofs.Common.{◌≡◌, ◌≤◌, ◌-◌, ◌++◌, drop, map, take}
use Rattle.std.specs.List.{AllByRecursion}
use Rattle.std.specs.Vec.{vec_len}
use Rattle.group_table.specs.Joined.{FitsGroup}
use Rattle.standing_query.specs.Times.{group_times}
use Rattle.standing_query.proofs.times.groups_times.Given as goal

-- those that are multiplied, and then those that are to come, are all
abbrev pub invariant-loop-i : goal.invariant-loop-i
invariant-loop-i l = record {
  within : l.i ≤ vec_len l.inner;
  fits : AllByRecursion FitsGroup (map (group_times l.count) (drop l.i l.inner.items));
  so_far : take l.i l.inner.items ++ map (group_times l.count) (drop l.i l.inner.items) ≡ map (group_times l.count) l.fn.groups;
}

abbrev pub decreases-loop-i : goal.decreases-loop-i
decreases-loop-i l = vec_len l.inner - l.i
