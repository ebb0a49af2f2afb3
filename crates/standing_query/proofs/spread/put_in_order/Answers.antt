use Rattle.std.proofs.Common.{ap, sym, ◌∙◌}
use Rattle.std.specs.Prelude.{bytes_eq}
use Rattle.std.specs.Cmp.Lexicographic.{on_texts, texts_ties}
use Rattle.std.proofs.lemmas.List.Filters.{dedup_is}
use Rattle.std.proofs.lemmas.List.Kept.{IsStrictlySortedBy-dedup}
use Rattle.std.proofs.lemmas.List.Sorted.{list_any-IsPermutation}
use Rattle.std.proofs.lemmas.Slice.Eq.{bytes_eq-Decides}
use Rattle.standing_query.proofs.Ascending.{any_dedup, ascends_map, has_map}
use Rattle.standing_query.proofs.spread.put_in_order.Goals as goal

pub returns-clause-ascends : goal.returns-clause-ascends
returns-clause-ascends c =
    ascends_map (λ x. x.now) _
    (rw (dedup_is _ _ _ c.dedup.ensures.filtered) (IsStrictlySortedBy-dedup (on_texts (λ x. x.now)) (λ x y. texts_ties x.now y.now) _ c.sort_unstable.ensures.sorted))

pub returns-clause-same : goal.returns-clause-same
returns-clause-same c n =
    has_map (λ x. x.now) n _
    ∙ (rw (dedup_is _ _ _ c.dedup.ensures.filtered) (any_dedup _ (λ x. bytes_eq n x.now) (λ x y e. ap (bytes_eq n) ((bytes_eq-Decides x.now y.now).0 e)) _)
    ∙ (sym (list_any-IsPermutation (λ x. bytes_eq n x.now) _ _ c.sort_unstable.ensures.permutation) ∙ sym (has_map (λ x. x.now) n _)))
