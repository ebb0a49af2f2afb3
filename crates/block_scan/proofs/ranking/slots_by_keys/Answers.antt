use Rattle.std.proofs.Common.{ℕ, List, subst}
use Rattle.std.specs.List.Sorted.{IsPermutation}
use Rattle.std.proofs.lemmas.List.Sorted.{IsPermutation-trans}
use Rattle.block_scan.proofs.ranking.slots_by_keys.Goals as goal

pub loop-i-preserved : goal.loop-i-preserved
loop-i-preserved c =
    IsPermutation-trans c.args.slots.items c.loop-i.order.items c.in_ok-order.order.items c.loop-i.invariant
    (subst (λ (l : List ℕ). IsPermutation {X = ℕ} l c.in_ok-order.order.items) c.as_slice-in-loop-i.ensures.value c.in_ok-order.ensures)
