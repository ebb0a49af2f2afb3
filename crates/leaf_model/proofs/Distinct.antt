-- Names that are distinct: the test, and what it tests.
use Rattle.std.proofs.Common.{◌≡◌, ◌≢◌, ℕ, true, false, not, List, [], ◌∷◌, refl, sym, ◌∙◌, true≢false}
use Rattle.std.specs.List.{AllByRecursion}
use Rattle.std.specs.Str.{bytes_eq}
use Rattle.std.proofs.lemmas.Bool.{and_parts, or_parts, or_from, not-true, false_from_ne_true}
use Rattle.std.proofs.lemmas.Slice.Eq.{bytes_eq-Decides}
use Rattle.row_model.specs.Names.{is_among, are_distinct, AreDistinct}

others : (name : List ℕ) (names : List (List ℕ)) → is_among names name ≡ false → AllByRecursion (λ other. other ≢ name) names
others name [] new = tt
others name (x ∷ xs) new =
    let parts = or_parts (bytes_eq x name) (is_among xs name) new in
    (λ same. true≢false (sym ((bytes_eq-Decides x name).1 same) ∙ parts.0), others name xs parts.1)

not_among : (name : List ℕ) (names : List (List ℕ)) → AllByRecursion (λ other. other ≢ name) names → is_among names name ≡ false
not_among name [] each = refl
not_among name (x ∷ xs) each =
    or_from (bytes_eq x name) (is_among xs name) (false_from_ne_true (bytes_eq x name) (λ is. each.0 ((bytes_eq-Decides x name).0 is))) (not_among name xs each.1)

pub distinct_names : (names : List (List ℕ)) → are_distinct names ≡ true → AreDistinct names
distinct_names [] is = tt
distinct_names (name ∷ names) is =
    let parts = and_parts (not (is_among names name)) (are_distinct names) is in
    (others name names (not-true (is_among names name) parts.0), distinct_names names parts.1)

pub are_distinct-from : (names : List (List ℕ)) → AreDistinct names → are_distinct names ≡ true
are_distinct-from [] each = refl
are_distinct-from (name ∷ names) each = rw (not_among name names each.0, are_distinct-from names each.1) refl
