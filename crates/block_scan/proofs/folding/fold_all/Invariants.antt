use Rattle.std.proofs.Common.{◌≡◌, length, map, take}
use Rattle.std.specs.List.{AllByRecursion}
use Rattle.group_table.specs.Joined.{IsFoldWithin}
use Rattle.block_scan.specs.Slots.{fold_at}
use Rattle.block_scan.proofs.folding.fold_all.Given as goal

abbrev pub invariant-loop-one : goal.invariant-loop-one
invariant-loop-one l = record {
  value : l.folds.items ≡ map (fold_at l.places) (take l.one-index l.decoded);
  within : AllByRecursion (IsFoldWithin (length l.places)) l.folds.items;
}
