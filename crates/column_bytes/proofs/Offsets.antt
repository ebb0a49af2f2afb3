-- Steps of the loops that code integers.
use Rattle.std.proofs.Common.{◌≡◌, ℕ, ◌+◌, ◌<◌, List, [], ◌∷◌, ◌++◌, length, slice_index, slice_index_or, ℤ, pos, ◌+ℤ◌, ◌-ℤ◌, ◌≤ℤ◌, unsigned_abs, below_more, sym, ap, ◌∙◌, arith}
use Rattle.std.proofs.lemmas.Int.{ints}
use Rattle.std.proofs.lemmas.List.{get_or_append_left}
use Rattle.std.proofs.Math.Seq.{get_or-append_seam}

-- how far a base is below leads back
pub offset_back : (base integer : ℤ) → base ≤ℤ integer → base +ℤ pos (unsigned_abs (integer -ℤ base)) ≡ integer
offset_back base integer h = grind (arith, ints)

pub codes_more : (base : ℤ) (integers : List ℤ) (codes more : List ℕ) (i x : ℕ) → length codes ≡ i → more ≡ codes ++ x ∷ []
    → base +ℤ pos x ≡ slice_index_or integers i (pos 0)
    → ((k : ℕ) → k < i → base +ℤ pos (slice_index codes k) ≡ slice_index_or integers k (pos 0))
    → (k : ℕ) → k < i + 1 → base +ℤ pos (slice_index more k) ≡ slice_index_or integers k (pos 0)
codes_more base integers codes more i x len made here before =
    below_more (λ k. base +ℤ pos (slice_index more k) ≡ slice_index_or integers k (pos 0)) i
    (λ k h. ap (λ list. base +ℤ pos (slice_index list k)) made ∙ ap (λ n. base +ℤ pos n) (get_or_append_left codes (x ∷ []) 0 k (omega arith)) ∙ before k h)
    (ap (λ list. base +ℤ pos (slice_index list i)) made
    ∙ ap (λ n. base +ℤ pos (slice_index (codes ++ x ∷ []) n)) (sym len)
    ∙ ap (λ n. base +ℤ pos n) (get_or-append_seam codes x [] 0) ∙ here)
