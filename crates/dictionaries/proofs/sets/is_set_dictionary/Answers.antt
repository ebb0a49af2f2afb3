use Rattle.std.proofs.Common.{◌≡◌, List, ℕ, ◌<◌, take, drop, refl, sym, ap, subst, ◌∙◌}
use Rattle.row_model.specs.Values.{IsSet}
use Rattle.dictionaries.specs.Dictionary.{text_count, texts_at}
use Rattle.dictionaries.specs.Sets.{AreNumbered, set_at, sets_part, texts_part}
use Rattle.dictionaries.proofs.sets.is_set_dictionary.Goals as goal

abbrev AreEach : List ℕ → List ℕ → Type 0
AreEach texts part = (k : ℕ) → k < text_count part → IsSet (set_at (texts_at texts) part k)

pub returns-then-are_numbered : goal.returns-then-are_numbered
returns-then-are_numbered c =
    let extra = c.args.extra.now in
    let texts = c.split_at.result.0.now in let part = c.split_at.result.1.now in
    let end = c.in-Some.ensures.end.0 in
    let front : texts ≡ texts_part extra = c.split_at.ensures.front ∙ ap (λ n. take n extra) end in
    let back : part ≡ sets_part extra = c.split_at.ensures.back ∙ ap (λ n. drop n extra) end in (
      λ yes. record {
        numbered = subst (AreNumbered (texts_part extra)) back (subst (λ t. AreNumbered t part) front (c.if-are_numbered.ensures.0 refl));
        each = subst (AreEach (texts_part extra)) back (subst (λ t. AreEach t part) front (c.are_sets.ensures.0 yes));
      },
      λ is. c.are_sets.ensures.1 (subst (λ t. AreEach t part) (sym front) (subst (AreEach (texts_part extra)) (sym back) is.each)),
    )
