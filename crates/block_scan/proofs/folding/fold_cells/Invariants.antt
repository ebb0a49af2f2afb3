use Rattle.std.proofs.Common.{◌≡◌, take}
use Rattle.group_table.specs.Joined.{IsFoldWithin}
use Rattle.block_scan.specs.Slots.{fold_at}
use Rattle.block_scan.proofs.folding.fold_cells.Given as goal

abbrev pub invariant-loop-place : goal.invariant-loop-place
invariant-loop-place l = record {
  value : l.fold ≡ fold_at (take l.place-index l.places) l.decoded;
  within : IsFoldWithin l.place-index l.fold;
}
