use Rattle.std.proofs.Common.{ℕ, Vec, Global}
use Rattle.std.specs.List.Sorted.{IsPermutation}
use Rattle.std.proofs.lemmas.List.Sorted.{IsPermutation-trans}
use Rattle.block_scan.specs.Slots.{lists_in, used_slots}
use Rattle.block_scan.proofs.Lists.{if_ok}
use Rattle.block_scan.proofs.laying.slots_in_order.Goals as goal

pub returns-in-Found : goal.returns-in-Found
returns-in-Found c =
    let used = used_slots (lists_in c.args.lists.now) in
    if_ok (λ (order : Vec ℕ Global). IsPermutation {X = ℕ} c.in_ok-order.order.items order.items) (λ (order : Vec ℕ Global). IsPermutation {X = ℕ} used order.items) c.slots_by_keys.result c.slots_by_keys.ensures
    (λ order is. IsPermutation-trans used c.in_ok-order.order.items order.items c.in_ok-order.ensures is)
