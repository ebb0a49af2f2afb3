-- A list in order is the one that does not fall and keeps what is alike as it stood, which a stable sort gives.
use Rattle.std.proofs.Common.{◌≡◌, ℕ, zero, suc, ◌+◌, ◌<◌, ◌≤◌, Bool, true, false, not, ◌&&◌, List, [], ◌∷◌, length, map, get_or, drop, cond, subst, refl, sym, ap, ◌∙◌, arith, if◌then◌else◌, true≢false}
use Rattle.std.specs.Prelude.{⊤}
use Rattle.std.specs.List.{AllByRecursion, filter}
use Rattle.std.specs.List.Sorted.{IsPermutation, IsSortedBy, IsStableBy, ties}
use Rattle.std.specs.Cmp.{IsStrictWeakOrder, IsTotalOrder}
use Rattle.std.specs.Ordering.{is_lt}
use Rattle.std.specs.declared.cmp.Ordering.{Ordering}
use Rattle.std.proofs.lemmas.List.Sorted.{ranks_by, sorted_far, IsPermutation-refl, IsPermutation-sym, IsPermutation-cons, IsPermutation-trans, IsPermutation-middle}
use Rattle.answer_text.specs.Answer.{placed, in_order}

-- by position: no element is less than one before it
abbrev Rises : {X : Type 0} → (X → X → Bool) → List X → Type 0
Rises lt [] = ⊤
Rises lt (x ∷ xs) = AllByRecursion (λ y. lt y x ≡ false) xs × Rises lt xs

all_from : {X : Type 0} (P : X → Type 0) (xs : List X) → ((j : ℕ) (d : X) → j < length xs → P (get_or xs j d)) → AllByRecursion P xs
all_from P [] h = tt
all_from P (x ∷ xs) h = (h 0 x (omega arith), all_from P xs (λ j d l. h (suc j) d (omega arith)))

rises_from : {X : Type 0} (lt : X → X → Bool) (xs : List X) → ((i j : ℕ) (d : X) → i ≤ j → j < length xs → lt (get_or xs j d) (get_or xs i d) ≡ false) → Rises lt xs
rises_from lt [] far = tt
rises_from lt (x ∷ xs) far = (
  all_from (λ y. lt y x ≡ false) xs (λ j d l. far 0 (suc j) d (omega arith) (omega arith)),
  rises_from lt xs (λ i j d h l. far (suc i) (suc j) d (omega arith) (omega arith)),
)

all_chained : {X : Type 0} (lt : X → X → Bool) (o : IsStrictWeakOrder lt) (x y : X) (ys : List X) → lt y x ≡ false → AllByRecursion (λ z. lt z y ≡ false) ys → AllByRecursion (λ z. lt z x ≡ false) ys
all_chained lt o x y [] h all = tt
all_chained lt o x y (z ∷ zs) h all = (o.chain z y x all.0 h, all_chained lt o x y zs h all.1)

all_placed_at : {X : Type 0} (P : X → Type 0) (x y : X) (ys further : List X) (t : Bool) → P x → AllByRecursion P (y ∷ ys) → AllByRecursion P further → AllByRecursion P (if t then y ∷ further else x ∷ y ∷ ys)
all_placed_at P x y ys further true one all more = (all.0, more)
all_placed_at P x y ys further false one all more = (one, all)

all_placed : {X : Type 0} (P : X → Type 0) (cmp : X → X → Ordering) (x : X) (ys : List X) → P x → AllByRecursion P ys → AllByRecursion P (placed cmp x ys)
all_placed P cmp x [] one all = (one, tt)
all_placed P cmp x (y ∷ ys) one all = all_placed_at P x y ys (placed cmp x ys) (is_lt (cmp y x)) one all (all_placed P cmp x ys one all.1)

module _ {X : Type 0} (cmp : X → X → Ordering) (o : IsStrictWeakOrder (λ (a b : X). is_lt (cmp a b))) where
  abbrev lt : X → X → Bool
  lt a b = is_lt (cmp a b)

  rises_at : (x y : X) (ys further : List X) (t : Bool) → lt y x ≡ t → Rises lt (y ∷ ys) → (lt x y ≡ false → AllByRecursion (λ z. lt z y ≡ false) further) → Rises lt further
      → Rises lt (if t then y ∷ further else x ∷ y ∷ ys)
  rises_at x y ys further true h up all more = (all (o.one_way y x h), more)
  rises_at x y ys further false h up all more = ((h, all_chained lt o x y ys h up.0), up)

  rises_placed : (x : X) (ys : List X) → Rises lt ys → Rises lt (placed cmp x ys)
  rises_placed x [] up = (tt, tt)
  rises_placed x (y ∷ ys) up =
      rises_at x y ys (placed cmp x ys) (lt y x) refl up (λ h. all_placed (λ z. lt z y ≡ false) cmp x ys h up.0) (rises_placed x ys up.1)

  pub rises_in_order : (xs : List X) → Rises lt (in_order cmp xs)
  rises_in_order [] = tt
  rises_in_order (x ∷ xs) = rises_placed x (in_order cmp xs) (rises_in_order xs)

  neither : (a b : Bool) → (not a && not b) ≡ true → (a ≡ false) × (b ≡ false)
  neither true b h = absurd (true≢false (sym h))
  neither false true h = absurd (true≢false (sym h))
  neither false false h = (refl, refl)

  -- what is alike does not pass
  apart : (z x y : X) → ties lt z x ≡ true → ties lt z y ≡ true → lt y x ≡ false
  apart z x y h k = o.chain y z x (neither (lt z y) (lt y z) k).1 (neither (lt z x) (lt x z) h).0

  kept_at : (p : X → Bool) (x y : X) (ys further : List X) (t a b : Bool) → lt y x ≡ t → p x ≡ a → p y ≡ b → (p x ≡ true → p y ≡ true → lt y x ≡ false)
      → filter p further ≡ filter p (x ∷ ys) → filter p (if t then y ∷ further else x ∷ y ∷ ys) ≡ filter p (x ∷ y ∷ ys)
  kept_at p x y ys further false a b h k l sep e = refl
  kept_at p x y ys further true a false h k l sep e = rw l e
  kept_at p x y ys further true false true h k l sep e = rw (l, k) (ap (λ rest. y ∷ rest) (rw k at e))
  kept_at p x y ys further true true true h k l sep e = absurd (true≢false (sym h ∙ sep k l))

  kept : (z x : X) (ys : List X) → filter (ties lt z) (placed cmp x ys) ≡ filter (ties lt z) (x ∷ ys)
  kept z x [] = refl
  kept z x (y ∷ ys) = kept_at (ties lt z) x y ys (placed cmp x ys) (lt y x) (ties lt z x) (ties lt z y) refl refl refl (apart z x y) (kept z x ys)

  kept_in_order : (z : X) (xs : List X) → filter (ties lt z) (in_order cmp xs) ≡ filter (ties lt z) xs
  kept_in_order z [] = refl
  kept_in_order z (x ∷ xs) = kept z x (in_order cmp xs) ∙ ap (λ rest. cond (ties lt z x) (x ∷ rest) rest) (kept_in_order z xs)

  not_itself_at : (x : X) (t : Bool) → lt x x ≡ t → lt x x ≡ false
  not_itself_at x true h = o.one_way x x h
  not_itself_at x false h = h

  not_itself : (x : X) → lt x x ≡ false
  not_itself x = not_itself_at x (lt x x) refl

  tied_at : (a b : Bool) → a ≡ false → b ≡ false → (not a && not b) ≡ true
  tied_at a b h k = rw (h, k) refl

  itself : (x : X) → ties lt x x ≡ true
  itself x = tied_at (lt x x) (lt x x) (not_itself x) (not_itself x)

  front : (p : X → Bool) (x : X) (xs : List X) → p x ≡ true → filter p (x ∷ xs) ≡ x ∷ filter p xs
  front p x xs h = rw h refl

  first_at : (p : X → Bool) (Q : X → Type 0) (a : X) (r : List X) (x : X) (xs : List X) (t : Bool) → Q x → (filter p xs ≡ a ∷ r → Q a) → cond t (x ∷ filter p xs) (filter p xs) ≡ a ∷ r → Q a
  first_at p Q a r x xs true one more h = subst Q (ap (λ l. get_or l 0 x) h) one
  first_at p Q a r x xs false one more h = more h

  first_of : (p : X → Bool) (Q : X → Type 0) (a : X) (r xs : List X) → AllByRecursion Q xs → filter p xs ≡ a ∷ r → Q a
  first_of p Q a r [] all h = absurd (omega (arith, ap length h))
  first_of p Q a r (x ∷ xs) all h = first_at p Q a r x xs (p x) all.0 (first_of p Q a r xs all.1) h

  tail_at : (x : X) (fs gs : List X) (t : Bool) → cond t (x ∷ fs) fs ≡ cond t (x ∷ gs) gs → fs ≡ gs
  tail_at x fs gs true h = ap (drop 1) h
  tail_at x fs gs false h = h

  tails : (p : X → Bool) (x y : X) (xs ys : List X) → x ≡ y → filter p (x ∷ xs) ≡ filter p (y ∷ ys) → filter p xs ≡ filter p ys
  tails p x y xs ys e h = tail_at x (filter p xs) (filter p ys) (p x) (h ∙ ap (λ w. filter p (w ∷ ys)) (sym e))

  unique : (xs ys : List X) → Rises lt xs → Rises lt ys → ((z : X) → filter (ties lt z) xs ≡ filter (ties lt z) ys) → xs ≡ ys
  unique [] [] up vp same = refl
  unique [] (y ∷ ys) up vp same = absurd (omega (arith, ap length (same y ∙ front (ties lt y) y ys (itself y))))
  unique (x ∷ xs) [] up vp same = absurd (omega (arith, ap length (sym (same x) ∙ front (ties lt x) x xs (itself x))))
  unique (x ∷ xs) (y ∷ ys) up vp same =
      let e : x ∷ filter (ties lt x) xs ≡ filter (ties lt x) (y ∷ ys) = sym (front (ties lt x) x xs (itself x)) ∙ same x in
      let f : y ∷ filter (ties lt y) ys ≡ filter (ties lt y) (x ∷ xs) = sym (front (ties lt y) y ys (itself y)) ∙ sym (same y) in
      let below : lt x y ≡ false = first_of (ties lt x) (λ w. lt w y ≡ false) x (filter (ties lt x) xs) (y ∷ ys) (not_itself y, vp.0) (sym e) in
      let above : lt y x ≡ false = first_of (ties lt y) (λ w. lt w x ≡ false) y (filter (ties lt y) ys) (x ∷ xs) (not_itself x, up.0) (sym f) in
      let one : x ≡ y = ap (λ l. get_or l 0 x) (e ∙ front (ties lt x) y ys (tied_at (lt x y) (lt y x) below above)) in
      let rest : xs ≡ ys = unique xs ys up.1 vp.1 (λ z. tails (ties lt z) x y xs ys one (same z)) in
      ap (λ l. x ∷ l) rest ∙ ap (λ w. w ∷ ys) one

  sorted_from : (xs : List X) → Rises lt xs → (k : ℕ) (d : X) → k + 1 < length xs → lt (get_or xs (k + 1) d) (get_or xs k d) ≡ false
  sorted_from [] up k d h = absurd (omega arith)
  sorted_from (x ∷ []) up k d h = absurd (omega arith)
  sorted_from (x ∷ y ∷ ys) up zero d h = up.0.0
  sorted_from (x ∷ y ∷ ys) up (suc k) d h =
      let e : suc k + 1 ≡ suc (k + 1) = omega arith in
      rw e (sorted_from (y ∷ ys) up.1 k d (omega arith))

  sorted_once : (xs ys : List X) → IsSortedBy lt ys → IsStableBy lt xs ys → ys ≡ in_order cmp xs
  sorted_once xs ys up stable = unique ys (in_order cmp xs) (rises_from lt ys (sorted_far lt o ys up)) (rises_in_order xs) (λ z. stable z ∙ sym (kept_in_order z xs))

map_placed_at : {X Y : Type 0} (f : X → Y) (x y : X) (ys further : List X) (others : List Y) (t : Bool) → map f further ≡ others → map f (if t then y ∷ further else x ∷ y ∷ ys) ≡ (if t then f y ∷ others else f x ∷ f y ∷ map f ys)
map_placed_at f x y ys further others true e = ap (λ rest. f y ∷ rest) e
map_placed_at f x y ys further others false e = refl

map_placed : {X Y : Type 0} (f : X → Y) (cmp : Y → Y → Ordering) (x : X) (ys : List X) → map f (placed (λ a b. cmp (f a) (f b)) x ys) ≡ placed cmp (f x) (map f ys)
map_placed f cmp x [] = refl
map_placed f cmp x (y ∷ ys) = map_placed_at f x y ys (placed (λ a b. cmp (f a) (f b)) x ys) (placed cmp (f x) (map f ys)) (is_lt (cmp (f y) (f x))) (map_placed f cmp x ys)

map_in_order : {X Y : Type 0} (f : X → Y) (cmp : Y → Y → Ordering) (xs : List X) → map f (in_order (λ a b. cmp (f a) (f b)) xs) ≡ in_order cmp (map f xs)
map_in_order f cmp [] = refl
map_in_order f cmp (x ∷ xs) = map_placed f cmp x (in_order (λ a b. cmp (f a) (f b)) xs) ∙ ap (placed cmp (f x)) (map_in_order f cmp xs)

-- a stable sort by what f gives of the elements
pub sorted_as : {X Y : Type 0} (f : X → Y) (cmp : Y → Y → Ordering) → IsTotalOrder cmp → (xs ys : List X)
    → IsSortedBy (λ a b. is_lt (cmp (f a) (f b))) ys → IsStableBy (λ a b. is_lt (cmp (f a) (f b))) xs ys → map f ys ≡ in_order cmp (map f xs)
sorted_as f cmp total xs ys up stable =
    ap (map f) (sorted_once (λ a b. cmp (f a) (f b)) (ranks_by total f) xs ys up stable) ∙ map_in_order f cmp xs

moved_at : {X : Type 0} (x y : X) (ys further : List X) (t : Bool) → IsPermutation (x ∷ ys) further → IsPermutation (x ∷ y ∷ ys) (if t then y ∷ further else x ∷ y ∷ ys)
moved_at x y ys further true h =
    IsPermutation-trans (x ∷ y ∷ ys) (y ∷ x ∷ ys) (y ∷ further) (IsPermutation-sym (y ∷ x ∷ ys) (x ∷ y ∷ ys) (IsPermutation-middle (y ∷ []) x ys)) (IsPermutation-cons y (x ∷ ys) further h)
moved_at x y ys further false h = IsPermutation-refl (x ∷ y ∷ ys)

same_placed : {X : Type 0} (cmp : X → X → Ordering) (x : X) (ys : List X) → IsPermutation (x ∷ ys) (placed cmp x ys)
same_placed cmp x [] = IsPermutation-refl (x ∷ [])
same_placed cmp x (y ∷ ys) = moved_at x y ys (placed cmp x ys) (is_lt (cmp y x)) (same_placed cmp x ys)

pub same_in_order : {X : Type 0} (cmp : X → X → Ordering) (xs : List X) → IsPermutation xs (in_order cmp xs)
same_in_order cmp [] = IsPermutation-refl []
same_in_order cmp (x ∷ xs) =
    IsPermutation-trans (x ∷ xs) (x ∷ in_order cmp xs) (placed cmp x (in_order cmp xs)) (IsPermutation-cons x xs (in_order cmp xs) (same_in_order cmp xs)) (same_placed cmp x (in_order cmp xs))

pub sorted_in_order : {X : Type 0} (cmp : X → X → Ordering) → IsTotalOrder cmp → (xs : List X) → IsSortedBy (λ a b. is_lt (cmp a b)) (in_order cmp xs)
sorted_in_order cmp total xs = λ k d l h. sorted_from cmp (ranks_by total (λ x. x)) (in_order cmp xs) (rises_in_order cmp (ranks_by total (λ x. x)) xs) k d h
