-- Lists that are cut to a length.
use Rattle.std.proofs.Common.{◌≡◌, ℕ, ◌+◌, ◌-◌, ◌≤◌, ◌<◌, suc, zero, min, List, [], ◌∷◌, ◌++◌, length, get_or, take, refl, sym, ap, ◌∙◌, arith}
use Rattle.std.proofs.Math.ListN.{set}
use Rattle.std.proofs.Math.Seq.{take-append-add}
use Rattle.std.proofs.lemmas.List.{take_all, take_min, take_more, take_more_set, take-append-le, length_push, length-append, length-take-le, append_assoc}

-- a list that was cut before is cut once
pub cut_twice : (n : ℕ) (xs ys : List ℕ) → take n (take n xs ++ ys) ≡ take n (xs ++ ys)
cut_twice zero xs ys = refl
cut_twice (suc n) [] ys = refl
cut_twice (suc n) (x ∷ xs) ys = ap (λ zs. x ∷ zs) (cut_twice n xs ys)

-- four texts that are put behind a list one by one
pub four_cut : (n : ℕ) (xs as_ bs cs ds : List ℕ) → take n (take n (take n (take n (xs ++ as_) ++ bs) ++ cs) ++ ds) ≡ take n (xs ++ (as_ ++ (bs ++ (cs ++ ds))))
four_cut n xs as_ bs cs ds =
    cut_twice n (take n (take n (xs ++ as_) ++ bs) ++ cs) ds
    ∙ ap (λ ys. take n ys) (append_assoc (take n (take n (xs ++ as_) ++ bs)) cs ds)
    ∙ cut_twice n (take n (xs ++ as_) ++ bs) (cs ++ ds)
    ∙ ap (λ ys. take n ys) (append_assoc (take n (xs ++ as_)) bs (cs ++ ds))
    ∙ cut_twice n (xs ++ as_) (bs ++ (cs ++ ds))
    ∙ ap (λ ys. take n ys) (append_assoc xs as_ (bs ++ (cs ++ ds)))

-- one byte more, where there is room
pub one_fits : (bytes : List ℕ) (len byte : ℕ) → len < 80 → length bytes ≡ 80 → take (len + 1) (set bytes len byte) ≡ take 80 (take len bytes ++ byte ∷ [])
one_fits bytes len byte room whole =
    let inside : len < length bytes = omega arith in
    let short : length (take len bytes ++ byte ∷ []) ≤ 80 = omega (arith, length_push (take len bytes) byte, length-take-le len bytes (omega arith)) in
    take_more_set bytes len byte inside ∙ sym (take_all 80 _ short)

-- and where there is none
pub none_fits : (bytes : List ℕ) (len byte : ℕ) → 80 ≤ len → len ≤ 80 → length bytes ≡ 80 → take len bytes ≡ take 80 (take len bytes ++ byte ∷ [])
none_fits bytes len byte full short whole =
    let all : length (take len bytes) ≡ len = length-take-le len bytes (omega arith) in
    sym (take-append-le 80 (take len bytes) (byte ∷ []) (omega arith) ∙ take_all 80 (take len bytes) (omega arith))

-- what fits of a text
pub what_fits : (line text : List ℕ) (room : ℕ) → length line + room ≡ 80 → line ++ take room text ≡ take 80 (line ++ text)
what_fits line text room whole = sym (ap (λ n. take n (line ++ text)) (sym whole) ∙ take-append-add line text room)

-- one byte more of a text that fits
pub one_more_fits : (old text : List ℕ) (i : ℕ) → length old + length text ≤ 80 → i < length text → (now : List ℕ) → now ≡ old ++ take i text
    → (new : List ℕ) → new ≡ take 80 (now ++ get_or text i 0 ∷ []) → new ≡ old ++ take (i + 1) text
one_more_fits old text i room inside now so_far new pushed =
    let more : now ++ get_or text i 0 ∷ [] ≡ old ++ take (i + 1) text = ap (λ xs. xs ++ get_or text i 0 ∷ []) so_far ∙ append_assoc old (take i text) (get_or text i 0 ∷ []) ∙ ap (λ xs. old ++ xs) (sym (take_more text i 0 inside)) in
    let short : length (old ++ take (i + 1) text) ≤ 80 = omega (arith, length-append old (take (i + 1) text), length-take-le (i + 1) text (omega arith)) in
    pushed ∙ ap (λ xs. take 80 xs) more ∙ take_all 80 _ short

-- so much of a text fits behind the first bytes of a line
pub all_that_fits : (old text bytes : List ℕ) (len : ℕ) → take len bytes ≡ old → len ≤ 80 → length bytes ≡ 80
    → (most : ℕ) → most ≡ min (length text) (80 - len) → (i : ℕ) → length (take most text) ≤ i → (now : List ℕ) → now ≡ old ++ take i (take most text) → now ≡ take 80 (old ++ text)
all_that_fits old text bytes len view short whole most most_is i end now so_far =
    let held : length old ≡ len = ap length (sym view) ∙ length-take-le len bytes (omega arith) in
    let room : length old + (80 - len) ≡ 80 = omega arith in
    let cut : take most text ≡ take (80 - len) text = ap (λ n. take n text) most_is ∙ cut_at_most (80 - len) text in
    so_far ∙ ap (λ xs. old ++ xs) (take_all i (take most text) end ∙ cut) ∙ what_fits old text (80 - len) room
  where
    cut_at_most : (n : ℕ) (xs : List ℕ) → take (min (length xs) n) xs ≡ take n xs
    cut_at_most n xs = ap (λ k. take k xs) (omega arith) ∙ take_min n xs
