use Rattle.std.proofs.Common.{◌≡◌, length}
use Rattle.std.specs.List.{AllByRecursion}
use Rattle.player.proofs.begin.copies.Given as goal

abbrev pub invariant-loop-made : goal.invariant-loop-made
invariant-loop-made l = record {
  count : length l.copies.items ≡ l.made;
  same : AllByRecursion (λ copy. copy ≡ l.names) l.copies.items;
}
