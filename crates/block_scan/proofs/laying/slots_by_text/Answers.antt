use Rattle.std.proofs.Common.{◌≡◌, ℕ, List, map, sym, subst, ◌∙◌, ap}
use Rattle.std.specs.List.Sorted.{IsPermutation}
use Rattle.std.proofs.lemmas.List.Sorted.{IsPermutation-map}
use Rattle.block_scan.specs.Slots.{lists_in, used_slots}
use Rattle.block_scan.proofs.Lists.{if_ok}
use Rattle.block_scan.proofs.laying.slots_by_text.Goals as goal

pub returns : goal.returns
returns c =
    let mixed = subst (λ (l : List ℕ). IsPermutation {X = ℕ} l (map (λ u. u.1) c.sort_unstable.new.self.items)) c.in_ok-used.ensures
    (IsPermutation-map (λ u. u.1) c.in_ok-used.used.items c.sort_unstable.new.self.items c.sort_unstable.ensures.permutation) in
    if_ok (λ order. order.items ≡ map (λ u. u.1) c.as_slice.result.now) (λ order. IsPermutation {X = ℕ} (used_slots (lists_in c.args.lists.now)) order.items) c.slots_alone.result c.slots_alone.ensures
    (λ order is. subst (λ (l : List ℕ). IsPermutation {X = ℕ} (used_slots (lists_in c.args.lists.now)) l) (sym (is ∙ ap (λ l. map (λ u. u.1) l) c.as_slice.ensures.value)) mixed)
