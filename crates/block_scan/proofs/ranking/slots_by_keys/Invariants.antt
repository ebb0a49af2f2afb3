use Rattle.std.specs.List.Sorted.{IsPermutation}
use Rattle.block_scan.proofs.ranking.slots_by_keys.Given as goal

abbrev pub invariant-loop-i : goal.invariant-loop-i
invariant-loop-i l = IsPermutation l.fn.slots.items l.order.items
