use Rattle.std.proofs.Common.{[]}
use Rattle.block_scan.specs.Slots.{AreLaid, lists_in}
use Rattle.block_scan.proofs.laying.empty_lists.Given as goal

abbrev pub invariant-loop-made : goal.invariant-loop-made
invariant-loop-made l = AreLaid (λ i. 0) l._made [] (lists_in l.lists.items)
