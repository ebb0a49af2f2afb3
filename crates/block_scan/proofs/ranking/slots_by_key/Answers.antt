use Rattle.std.proofs.Common.{◌≡◌, ℕ, List, map, sym, subst, ◌∙◌, ap}
use Rattle.std.specs.List.Sorted.{IsPermutation}
use Rattle.std.proofs.lemmas.List.Sorted.{IsPermutation-map}
use Rattle.block_scan.proofs.Lists.{if_ok}
use Rattle.block_scan.proofs.ranking.slots_by_key.Goals as goal

pub returns : goal.returns
returns c =
    let mixed = subst (λ (l : List ℕ). IsPermutation {X = ℕ} l (map (λ u. u.4) c.sort_unstable.new.self.items)) c.in_ok-all.ensures
    (IsPermutation-map (λ u. u.4) c.in_ok-all.all.items c.sort_unstable.new.self.items c.sort_unstable.ensures.permutation) in
    if_ok (λ order. order.items ≡ map (λ u. u.4) c.as_slice.result.now) (λ order. IsPermutation {X = ℕ} c.args.slots.now order.items) c.slots_alone.result c.slots_alone.ensures
    (λ order is. subst (λ (l : List ℕ). IsPermutation {X = ℕ} c.args.slots.now l) (sym (is ∙ ap (λ l. map (λ u. u.4) l) c.as_slice.ensures.value)) mixed)
