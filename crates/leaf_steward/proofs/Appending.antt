-- Notes put behind others, one by one.
use Rattle.std.proofs.Common.{◌≡◌, ℕ, zero, suc, ◌+◌, ◌<◌, ◌≤◌, List, [], ◌∷◌, ◌++◌, length, take, slice_get, Some, ap, sym, ◌∙◌, append_assoc, arith}
use Rattle.std.proofs.lemmas.List.{length-append, length-take-le}
use Rattle.leaf_words.specs.declared.note.Note.{Note}

take_next : (ns : List Note) (i : ℕ) (n : Note) → slice_get ns i ≡ Some n → take (suc i) ns ≡ take i ns ++ n ∷ []
take_next [] i n at = absurd cc
take_next (m ∷ ms) zero n at =
    let same : m ≡ n = cc in
    ap (λ (x : Note). x ∷ []) same
take_next (m ∷ ms) (suc i) n at = ap (λ (ns : List Note). m ∷ ns) (take_next ms i n at)

-- one more stands there
pub one_more : (old others now then : List Note) (i : ℕ) (n : Note) → now ≡ old ++ take i others → slice_get others i ≡ Some n → then ≡ now ++ n ∷ []
    → then ≡ old ++ take (suc i) others
one_more old others now then i n so_far at pushed =
    pushed ∙ ap (λ (ns : List Note). ns ++ n ∷ []) so_far ∙ append_assoc old (take i others) (n ∷ []) ∙ ap (λ (ns : List Note). old ++ ns) (sym (take_next others i n at))

-- there is room for it
pub has_room : (old others now : List Note) (i : ℕ) → now ≡ old ++ take i others → i < length others → length old + length others ≤ 80 → length now < 80
has_room old others now i so_far more fits =
    let size : length now ≡ length old + length (take i others) = ap (λ (ns : List Note). length ns) so_far ∙ length-append old (take i others) in
    let taken : length (take i others) ≡ i = length-take-le i others (omega (arith, more)) in
    omega (arith, size, taken, more, fits)
