-- Bytes that are written over a content, which was lengthened with zeros where they reach past its end.
use Rattle.std.proofs.Common.{◌≡◌, ℕ, zero, suc, ◌+◌, ◌-◌, ◌≤◌, List, [], ◌∷◌, ◌++◌, length, take, drop, replicate, refl, sym, ap, ap₂, ◌∙◌, arith}
use Rattle.std.proofs.lemmas.List.{append-nil, drop_all, length-append, length-drop, length-replicate, length-take, take_all, take_at}
use Rattle.berth_face.specs.Berth.{written}

take_zeros : (at n : ℕ) → at ≤ n → take {A = ℕ} at (replicate {A = ℕ} n 0) ≡ replicate {A = ℕ} at 0
take_zeros zero n h = refl
take_zeros (suc at) zero h = absurd (omega (arith, h))
take_zeros (suc at) (suc n) h = ap (λ xs. 0 ∷ xs) (take_zeros at n (omega (arith, h)))

same_front : (old : List ℕ) (at n : ℕ) → at ≤ length old + n → take at (old ++ replicate n 0) ≡ take at (old ++ replicate (at - length old) 0)
same_front [] at n h = take_zeros at n (omega (arith, h)) ∙ sym (take_zeros at (at - 0) (omega arith))
same_front (x ∷ old) zero n h = refl
same_front (x ∷ old) (suc at) n h =
    let less : at - length old ≡ suc at - length (x ∷ old) = omega arith in
    ap (λ xs. x ∷ xs) (same_front old at n (omega (arith, h)) ∙ ap (λ k. take at (old ++ replicate k 0)) less)

-- the slice that was lent comes back in the content
pub wrote : (len : ℕ) (old long slice new : List ℕ) (at n : ℕ) (bytes : List ℕ) → len ≡ length long → slice ≡ long → new ≡ take at slice ++ bytes ++ drop (at + length bytes) slice
    → at + length bytes ≤ length long → long ≡ old ++ replicate n 0 → at ≤ length old + n → drop (at + length bytes) long ≡ drop (at + length bytes) old
    → take len (new ++ drop (length new) long) ≡ written at bytes old
wrote len old long slice new at n bytes size same is fits longer front ends =
    let end : ℕ = at + length bytes in
    let now : new ≡ take at long ++ bytes ++ drop end long = is ∙ ap (λ (s : List ℕ). take at s ++ bytes ++ drop end s) same in
    let parts = ap (λ (xs : List ℕ). length xs) now in
    let whole : length new ≡ len = omega (arith, size, fits, parts, length-append (take at long ++ bytes) (drop end long), length-append (take at long) bytes, length-take at long, length-drop end long) in
    take_at new (drop (length new) long) len whole
    ∙ (now ∙ ap₂ (λ (xs ys : List ℕ). xs ++ bytes ++ ys) (ap (take at) longer ∙ same_front old at n front) ends)

-- it was long enough
pub wrote_inside : (len : ℕ) (old long slice new : List ℕ) (at : ℕ) (bytes : List ℕ) → len ≡ length long → slice ≡ long → new ≡ take at slice ++ bytes ++ drop (at + length bytes) slice
    → long ≡ old → at + length bytes ≤ length old → take len (new ++ drop (length new) long) ≡ written at bytes old
wrote_inside len old long slice new at bytes size same is whole fits =
    let count = ap (λ (xs : List ℕ). length xs) whole in
    wrote len old long slice new at 0 bytes size same is (omega (arith, fits, count)) (whole ∙ sym (append-nil old)) (omega (arith, fits)) (ap (drop (at + length bytes)) whole)

-- it was made as long as it had to be
pub wrote_longer : (len : ℕ) (old long slice new : List ℕ) (at gap : ℕ) (bytes : List ℕ) → len ≡ length long → slice ≡ long → new ≡ take at slice ++ bytes ++ drop (at + length bytes) slice
    → long ≡ take (at + length bytes) old ++ replicate gap 0 → gap ≡ at + length bytes - length old → length old ≤ at + length bytes → take len (new ++ drop (length new) long) ≡ written at bytes old
wrote_longer len old long slice new at gap bytes size same is longer wide short =
    let end : ℕ = at + length bytes in
    let whole : long ≡ old ++ replicate gap 0 = longer ∙ ap (λ (xs : List ℕ). xs ++ replicate gap 0) (take_all end old short) in
    let count : length long ≡ end = omega (arith, ap (λ (xs : List ℕ). length xs) whole, length-append old (replicate gap 0), length-replicate {A = ℕ} gap 0, wide, short) in
    wrote len old long slice new at gap bytes size same is (omega (arith, count)) whole (omega (arith, wide, short))
    (drop_all end long (omega (arith, count)) ∙ sym (drop_all end old short))
