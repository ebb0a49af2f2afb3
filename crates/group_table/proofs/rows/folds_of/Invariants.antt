use Rattle.std.proofs.Common.{◌≡◌, ◌≤◌, ◌-◌, ◌++◌, length, drop}
use Rattle.std.specs.List.{AllByRecursion}
use Rattle.leaf_model.specs.Lent.{each_value}
use Rattle.group_table.specs.Joined.{IsFoldWithin}
use Rattle.group_table.specs.Reads.{seen_folds}
use Rattle.group_table.proofs.rows.folds_of.Given as goal

abbrev pub invariant-loop-i : goal.invariant-loop-i
invariant-loop-i l = record {
  bound : l.i ≤ length l.aggs;
  folds : l.folds.items ++ seen_folds (drop l.i l.aggs) (each_value (drop l.i l.seen)) ≡ seen_folds l.aggs (each_value l.seen);
  within : AllByRecursion (IsFoldWithin 1) l.folds.items;
}

abbrev pub decreases-loop-i : goal.decreases-loop-i
decreases-loop-i l = length l.aggs - l.i
