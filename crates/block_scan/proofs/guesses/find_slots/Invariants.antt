use Rattle.std.proofs.Common.{◌<◌, ◌≤◌, length, take}
use Rattle.std.specs.List.{AllByRecursion}
use Rattle.block_scan.specs.Keyed.{IsPlaced}
use Rattle.block_scan.proofs.guesses.find_slots.Given as goal

abbrev pub invariant-loop-place : goal.invariant-loop-place
invariant-loop-place l = record {
  few : length l.firsts.items ≤ l.place-index;
  firsts : AllByRecursion (λ first. first < l.rows) l.firsts.items;
  placed : AllByRecursion (IsPlaced l.keys l.firsts.items l.at) (take l.place-index l.places);
}
