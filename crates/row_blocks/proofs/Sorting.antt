-- A stable sort leaves a part that was in order as it was.
use Rattle.std.proofs.Common.{◌≡◌, ℕ, suc, ◌<◌, ◌≤◌, Bool, true, false, not, ◌&&◌, List, [], ◌∷◌, length, get_or, drop, cond, subst, refl, sym, ap, ◌∙◌, arith}
use Rattle.std.specs.List.{AllByRecursion, filter}
use Rattle.std.specs.List.Sorted.{IsSortedBy, IsStableBy, ties}
use Rattle.std.specs.Cmp.{IsStrictWeakOrder}
use Rattle.std.proofs.lemmas.List.Sorted.{sorted_far}
use Rattle.std.proofs.lemmas.List.Kept.{IsSortedBy-filter}
use Rattle.row_blocks.specs.Runs.{Rises}

all_from : {X : Type 0} (P : X → Type 0) (xs : List X) → ((j : ℕ) (d : X) → j < length xs → P (get_or xs j d)) → AllByRecursion P xs
all_from P [] h = tt
all_from P (x ∷ xs) h = (h 0 x (omega arith), all_from P xs (λ j d l. h (suc j) d (omega arith)))

rises_from : {X : Type 0} (lt : X → X → Bool) (xs : List X) → ((i j : ℕ) (d : X) → i ≤ j → j < length xs → lt (get_or xs j d) (get_or xs i d) ≡ false) → Rises lt xs
rises_from lt [] far = tt
rises_from lt (x ∷ xs) far = (
  all_from (λ y. lt y x ≡ false) xs (λ j d l. far 0 (suc j) d (omega arith) (omega arith)),
  rises_from lt xs (λ i j d h l. far (suc i) (suc j) d (omega arith) (omega arith)),
)

pub rises_sorted : {X : Type 0} (lt : X → X → Bool) → IsStrictWeakOrder lt → (xs : List X) → IsSortedBy lt xs → Rises lt xs
rises_sorted lt o xs up = rises_from lt xs (sorted_far lt o xs up)

kept_twice : {X : Type 0} (p q : X → Bool) (x : X) (ps qs : List X) (a b : Bool) → p x ≡ a → q x ≡ b → filter p qs ≡ filter q ps
    → filter p (cond b (x ∷ qs) qs) ≡ filter q (cond a (x ∷ ps) ps)
kept_twice p q x ps qs true true h k e = rw (h, k) (ap (λ rest. x ∷ rest) e)
kept_twice p q x ps qs true false h k e = rw k e
kept_twice p q x ps qs false true h k e = rw h e
kept_twice p q x ps qs false false h k e = e

-- the order of two tests does not matter
both_kept : {X : Type 0} (p q : X → Bool) (xs : List X) → filter p (filter q xs) ≡ filter q (filter p xs)
both_kept p q [] = refl
both_kept p q (x ∷ xs) = kept_twice p q x (filter p xs) (filter q xs) (p x) (q x) refl refl (both_kept p q xs)

module _ {X : Type 0} (lt : X → X → Bool) (o : IsStrictWeakOrder lt) where
  not_itself_at : (x : X) (t : Bool) → lt x x ≡ t → lt x x ≡ false
  not_itself_at x true h = o.one_way x x h
  not_itself_at x false h = h

  not_itself : (x : X) → lt x x ≡ false
  not_itself x = not_itself_at x (lt x x) refl

  tied_at : (a b : Bool) → a ≡ false → b ≡ false → (not a && not b) ≡ true
  tied_at a b h k = rw (h, k) refl

  itself : (x : X) → ties lt x x ≡ true
  itself x = tied_at (lt x x) (lt x x) (not_itself x) (not_itself x)

  front : (p : X → Bool) (x : X) (xs : List X) → p x ≡ true → filter p (x ∷ xs) ≡ x ∷ filter p xs
  front p x xs h = rw h refl

  first_at : (p : X → Bool) (Q : X → Type 0) (a : X) (r : List X) (x : X) (xs : List X) (t : Bool) → Q x → (filter p xs ≡ a ∷ r → Q a) → cond t (x ∷ filter p xs) (filter p xs) ≡ a ∷ r → Q a
  first_at p Q a r x xs true one more h = subst Q (ap (λ l. get_or l 0 x) h) one
  first_at p Q a r x xs false one more h = more h

  first_of : (p : X → Bool) (Q : X → Type 0) (a : X) (r xs : List X) → AllByRecursion Q xs → filter p xs ≡ a ∷ r → Q a
  first_of p Q a r [] all h = absurd (omega (arith, ap length h))
  first_of p Q a r (x ∷ xs) all h = first_at p Q a r x xs (p x) all.0 (first_of p Q a r xs all.1) h

  tail_at : (x : X) (fs gs : List X) (t : Bool) → cond t (x ∷ fs) fs ≡ cond t (x ∷ gs) gs → fs ≡ gs
  tail_at x fs gs true h = ap (drop 1) h
  tail_at x fs gs false h = h

  tails : (p : X → Bool) (x y : X) (xs ys : List X) → x ≡ y → filter p (x ∷ xs) ≡ filter p (y ∷ ys) → filter p xs ≡ filter p ys
  tails p x y xs ys e h = tail_at x (filter p xs) (filter p ys) (p x) (h ∙ ap (λ w. filter p (w ∷ ys)) (sym e))

  -- two lists that rise and have the same ties are one
  unique : (xs ys : List X) → Rises lt xs → Rises lt ys → ((z : X) → filter (ties lt z) xs ≡ filter (ties lt z) ys) → xs ≡ ys
  unique [] [] up vp same = refl
  unique [] (y ∷ ys) up vp same = absurd (omega (arith, ap length (same y ∙ front (ties lt y) y ys (itself y))))
  unique (x ∷ xs) [] up vp same = absurd (omega (arith, ap length (sym (same x) ∙ front (ties lt x) x xs (itself x))))
  unique (x ∷ xs) (y ∷ ys) up vp same =
      let e : x ∷ filter (ties lt x) xs ≡ filter (ties lt x) (y ∷ ys) = sym (front (ties lt x) x xs (itself x)) ∙ same x in
      let f : y ∷ filter (ties lt y) ys ≡ filter (ties lt y) (x ∷ xs) = sym (front (ties lt y) y ys (itself y)) ∙ sym (same y) in
      let below : lt x y ≡ false = first_of (ties lt x) (λ w. lt w y ≡ false) x (filter (ties lt x) xs) (y ∷ ys) (not_itself y, vp.0) (sym e) in
      let above : lt y x ≡ false = first_of (ties lt y) (λ w. lt w x ≡ false) y (filter (ties lt y) ys) (x ∷ xs) (not_itself x, up.0) (sym f) in
      let one : x ≡ y = ap (λ l. get_or l 0 x) (e ∙ front (ties lt x) y ys (tied_at (lt x y) (lt y x) below above)) in
      let rest : xs ≡ ys = unique xs ys up.1 vp.1 (λ z. tails (ties lt z) x y xs ys one (same z)) in
      ap (λ l. x ∷ l) rest ∙ ap (λ w. w ∷ ys) one

  pub part_stays : (p : X → Bool) (xs ys : List X) → Rises lt (filter p xs) → IsSortedBy lt ys → IsStableBy lt xs ys → filter p ys ≡ filter p xs
  part_stays p xs ys rises up stable =
      unique (filter p ys) (filter p xs) (rises_sorted lt o (filter p ys) (IsSortedBy-filter lt o p ys up)) rises
      (λ z. both_kept (ties lt z) p ys ∙ ap (filter p) (stable z) ∙ both_kept p (ties lt z) xs)
