use Rattle.std.proofs.Common.{length, ◌-◌, ◌≡◌, ◌≤◌, ◌^◌, ◌++◌, drop, take}
use Rattle.std.specs.List.{AllByRecursion}
use Rattle.std.specs.Vec.{vec_len}
use Rattle.leaf_model.specs.Lent.{each_value}
use Rattle.group_table.specs.Joined.{joined_folds, IsFoldWithin}
use Rattle.group_table.specs.Reads.{seen_folds}
use Rattle.group_table.proofs.table.add_cells.Given as goal

-- what is joined so far, and then what is left joined, is all joined
abbrev pub invariant-loop-i : goal.invariant-loop-i
invariant-loop-i l = record {
  same : vec_len l.folds ≡ length l.aggs;
  bound : l.i ≤ length l.aggs;
  within : AllByRecursion (IsFoldWithin (2 ^ 64 - 2)) (drop l.i l.folds.items);
  so_far : take l.i l.folds.items ++ joined_folds (drop l.i l.folds.items) (seen_folds (drop l.i l.aggs) (each_value (drop l.i l.seen))) ≡ joined_folds l.fn.folds.items (seen_folds l.aggs (each_value l.seen));
  row : AllByRecursion (IsFoldWithin 1) (seen_folds (drop l.i l.aggs) (each_value (drop l.i l.seen))) → AllByRecursion (IsFoldWithin 1) (seen_folds l.aggs (each_value l.seen));
}

abbrev pub decreases-loop-i : goal.decreases-loop-i
decreases-loop-i l = length l.aggs - l.i
