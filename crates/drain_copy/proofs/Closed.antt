-- What a cut and a write make of a closed region.
use Rattle.std.proofs.Common.{◌≡◌, inl, inr, ℕ, zero, suc, ◌+◌, ◌≤◌, min, max, List, [], ◌∷◌, ◌++◌, length, take, drop, sym, ap, ap₂, ◌∙◌, subst, arith, length-take}
use Rattle.std.proofs.lemmas.List.{length-append, length-drop, length-replicate, drop_all, append-nil}
use Rattle.std.proofs.Math.Seq.{take-append_seam}
use Rattle.std.specs.Prelude.{replicate, ◌-◌}
use Rattle.std.proofs.lemmas.Bool.{cases_eq}
use Rattle.berth_face.specs.Berth.{IsClosed, Torn, Cut, written}
use Rattle.drain_copy.specs.Regions.{ClosedOrOpened, EndsAt}

pub none_closed : IsClosed []
none_closed = inl (omega arith)

front_closed : (k : ℕ) (region : List ℕ) → IsClosed region → IsClosed (take k region)
front_closed k [] closed = inl (omega (arith, length-take {A = ℕ} k []))
front_closed zero (x ∷ xs) closed = inl (omega arith)
front_closed (suc k) (x ∷ xs) closed = elim closed [
  | inl short ↦ inl (omega (arith, short, length-take (suc k) (x ∷ xs)))
  | inr other ↦ inr other
]

-- however a cut is cut short
pub cut_closed : (n : ℕ) (old new : List ℕ) → IsClosed old → Cut n old new → IsClosed new
cut_closed n old new closed cut = subst IsClosed (sym cut.front) (front_closed (length new) old closed)

-- a byte in an empty region is no head
pub byte_closed : (new : List ℕ) → Torn 0 1 [] new → IsClosed new
byte_closed new torn = inl (omega (arith, torn.no_longer))

first_closed : (new : List ℕ) → take 1 new ≡ 0 ∷ [] → IsClosed new
first_closed [] e = inl (omega arith)
first_closed (x ∷ xs) e = inr (λ one. let first : x ≡ 0 = cc in omega (arith, first, one))

min_one : (n : ℕ) → 1 ≤ n → min 1 n ≡ 1
min_one n some = omega arith

-- what is written behind a flag that is not open leaves it so, however it is cut short
pub behind_torn : (n : ℕ) (rest new : List ℕ) → Torn 1 n (0 ∷ rest) new → IsClosed new
behind_torn n rest new torn = first_closed new (subst (λ (k : ℕ). take k new ≡ 0 ∷ []) (min_one (length (0 ∷ rest)) (omega arith)) torn.before)

pub behind_written : (bytes rest : List ℕ) → IsClosed (written 1 bytes (0 ∷ rest))
behind_written bytes rest = inr (λ one. omega (arith, one))

-- a flag that is being written
pub flag_torn : (old new : List ℕ) → Torn 0 1 old new → ClosedOrOpened (drop 1 old) new
flag_torn old [] torn = inl none_closed
flag_torn old (x ∷ xs) torn = elim (cases_eq x 1) [
  | inl one ↦ inr (ap₂ (λ (a : ℕ) (l : List ℕ). a ∷ l) one torn.after)
  | inr other ↦ inl (inr other)
]

-- the image behind its own flag
pub flag_first : (image : List ℕ) → take 1 image ≡ 1 ∷ [] → 1 ∷ drop 1 image ≡ image
flag_first [] e = absurd cc
flag_first (x ∷ xs) e = let first : 1 ≡ x = cc in ap (λ (a : ℕ). a ∷ xs) first

head_kept : (m : ℕ) (xs new : List ℕ) → take (suc m) new ≡ take (suc m) (0 ∷ xs) → IsClosed new
head_kept m xs [] e = none_closed
head_kept m xs (y ∷ ys) e = inr (λ one. let first : y ≡ 0 = cc in omega (arith, first, one))

-- a write at the region's end that is cut short leaves it closed
pub end_torn : (at n : ℕ) (old new : List ℕ) → 1 ≤ at → EndsAt at old → Torn at n old new → IsClosed new
end_torn zero n old new some ends torn = absurd (omega (arith, some))
end_torn (suc m) n [] new some ends torn = absurd cc
end_torn (suc m) n (x ∷ xs) new some ends torn =
    let first : x ≡ 0 = cc in
    let all : min (suc m) (length (x ∷ xs)) ≡ suc m = omega (arith, ends.0) in
    let kept : take (suc m) new ≡ take (suc m) (0 ∷ xs) = subst (λ (k : ℕ). take k new ≡ take (suc m) (0 ∷ xs)) all (torn.before ∙ ap (λ (a : ℕ). take (suc m) (a ∷ xs)) first) in
    head_kept m xs new kept

pub end_written : (at : ℕ) (bytes old : List ℕ) → 1 ≤ at → EndsAt at old → IsClosed (old ++ bytes)
end_written at bytes [] some ends = absurd cc
end_written at bytes (x ∷ xs) some ends =
    let first : x ≡ 0 = cc in
    inr (λ one. omega (arith, first, one))

-- a write at the region's end
pub end_whole : (at : ℕ) (bytes old : List ℕ) → EndsAt at old → written at bytes old ≡ old ++ bytes
end_whole at bytes old ends =
    let front : take at (old ++ replicate (at - length old) 0) ≡ old =
    subst (λ (k : ℕ). take k (old ++ replicate (at - length old) 0) ≡ old) ends.0 (take-append_seam old (replicate (at - length old) 0)) in
    let back : drop (at + length bytes) old ≡ [] = drop_all (at + length bytes) old (omega (arith, ends.0)) in
    ap₂ (λ (a b : List ℕ). a ++ bytes ++ b) front back ∙ append-nil (old ++ bytes)

-- 15 bytes behind the flag, however they are cut short
pub head_torn : (n k : ℕ) (old new : List ℕ) → EndsAt n old → Torn 1 k old new → IsClosed new
head_torn n k [] new ends torn = absurd cc
head_torn n k (x ∷ xs) new ends torn =
    let first : x ≡ 0 = cc in
    behind_torn k xs new (subst (λ (a : ℕ). Torn 1 k (a ∷ xs) new) first torn)

pub head_whole : (n : ℕ) (head old : List ℕ) → length head ≡ 15 → EndsAt n old → written 1 head old ≡ 0 ∷ (head ++ drop 16 old)
head_whole n head [] all ends = absurd cc
head_whole n head (x ∷ xs) all ends =
    let first : x ≡ 0 = cc in
    ap₂ (λ (a k : ℕ). a ∷ (head ++ drop (1 + k) (x ∷ xs))) first all

pub head_closed : (n : ℕ) (head old : List ℕ) → length head ≡ 15 → EndsAt n old → IsClosed (written 1 head old)
head_closed n head old all ends = subst IsClosed (sym (head_whole n head old all ends)) (inr (λ one. omega (arith, one)))

pub ends_after : (at : ℕ) (bytes old : List ℕ) → 1 ≤ at → EndsAt at old → EndsAt (at + length bytes) (old ++ bytes)
ends_after at bytes [] some ends = absurd cc
ends_after at bytes (x ∷ xs) some ends = (omega (arith, ends.0, length-append (x ∷ xs) bytes), ends.1)

-- how long what is written is
pub written_length : (at : ℕ) (bytes old : List ℕ) → length (written at bytes old) ≤ max (length old) (at + length bytes)
written_length at bytes old =
    let gap = replicate (at - length old) 0 in
    let front = take at (old ++ gap) in
    let back = drop (at + length bytes) old in
    omega (arith, length-append (front ++ bytes) back, length-append front bytes, length-take at (old ++ gap), length-append old gap, length-replicate {A = ℕ} (at - length old) 0, length-drop (at + length bytes) old)
