-- Beginnings of one list.
use Rattle.std.proofs.Common.{◌≡◌, ℕ, zero, suc, ◌≤◌, List, [], ◌∷◌, ◌++◌, length, Some, slice_get, refl, ap, sym, ◌∙◌, arith, append_assoc, length-append}
use mathlib.Core.List.{IsPrefix}
use mathlib.Core.Option.{some, some-ne-none, some-injective}
use lib.ListN.{get_elem?}
use Rattle.std.specs.List.{AllByRecursion}
use Rattle.std.proofs.Common.{◌+◌, ◌<◌, ◌⊎◌, inl, inr, ⊎_elim, subst}

pub prefix_trans : {A : Type 0} (xs ys zs : List A) → IsPrefix xs ys → IsPrefix ys zs → IsPrefix xs zs
prefix_trans xs ys zs p q = (p.0 ++ q.0, sym (append_assoc xs p.0 q.0) ∙ (ap (λ w. w ++ q.0) p.1 ∙ q.1))

-- of two beginnings of one list the shorter begins the longer
pub prefix_shorter : {A : Type 0} (xs ys zs : List A) → IsPrefix xs zs → IsPrefix ys zs → length xs ≤ length ys → IsPrefix xs ys
prefix_shorter [] ys zs p q le = (ys, refl)
prefix_shorter (x ∷ xs) [] zs p q le = absurd (omega arith)
prefix_shorter (x ∷ xs) (y ∷ ys) [] p q le = absurd (cc (p.1))
prefix_shorter (x ∷ xs) (y ∷ ys) (z ∷ zs) p q le =
    let heads : x ≡ y = cc (p.1, q.1) in
    let rest = prefix_shorter xs ys zs (p.0, cc (p.1)) (q.0, cc (q.1)) (omega arith) in
    (rest.0, cc (heads, rest.1))

-- a beginning as long as the whole is the whole
pub prefix_whole : {A : Type 0} (xs ys : List A) → IsPrefix xs ys → length ys ≤ length xs → xs ≡ ys
prefix_whole [] [] p le = refl
prefix_whole [] (y ∷ ys) p le = absurd (omega arith)
prefix_whole (x ∷ xs) [] p le = absurd (cc (p.1))
prefix_whole (x ∷ xs) (y ∷ ys) p le =
    let rest = prefix_whole xs ys (p.0, cc (p.1)) (omega arith) in cc (p.1, rest)

pub prefix_length : {A : Type 0} (xs ys : List A) → IsPrefix xs ys → length xs ≤ length ys
prefix_length xs ys p = omega (arith, sym (ap length p.1) ∙ length-append xs p.0)

module _ {A : Type 0} where
  pub at_behind : (xs ys : List A) (i : ℕ) → get_elem? (xs ++ ys) (length xs + i) ≡ get_elem? ys i
  at_behind [] ys i = ap (get_elem? ys) (let n : 0 + i ≡ i = omega arith in n)
  at_behind (x ∷ xs) ys i = ap (get_elem? (x ∷ (xs ++ ys))) (let n : suc (length xs) + i ≡ suc (length xs + i) = omega arith in n) ∙ at_behind xs ys i

  pub at_front : (xs ys : List A) (i : ℕ) (a : A) → get_elem? xs i ≡ some a → get_elem? (xs ++ ys) i ≡ some a
  at_front [] ys i a e = absurd (some-ne-none a (sym e))
  at_front (x ∷ xs) ys zero a e = e
  at_front (x ∷ xs) ys (suc i) a e = at_front xs ys i a e

  -- what stands behind a beginning of a beginning stands in the whole
  pub at_between : (xs ys zs whole : List A) (i : ℕ) (a : A) → ys ≡ xs ++ zs → IsPrefix ys whole → get_elem? zs i ≡ some a → get_elem? whole (length xs + i) ≡ some a
  at_between xs ys zs whole i a e p h =
      let all : xs ++ (zs ++ p.0) ≡ whole = sym (append_assoc xs zs p.0) ∙ (ap (λ w. w ++ p.0) (sym e) ∙ p.1) in
      ap (λ w. get_elem? w (length xs + i)) (sym all) ∙ (at_behind xs (zs ++ p.0) i ∙ at_front zs p.0 i a h)

  pub at_inside : (xs : List A) (i : ℕ) (a : A) → get_elem? xs i ≡ some a → i < length xs
  at_inside [] i a e = absurd (some-ne-none a (sym e))
  at_inside (x ∷ xs) zero a e = omega arith
  at_inside (x ∷ xs) (suc i) a e = let t = at_inside xs i a e in omega arith

  -- an entry of a longer list is an old one, at an old place, or the last
  pub at_push : (xs : List A) (a b : A) (i : ℕ) → get_elem? (xs ++ a ∷ []) i ≡ some b → (get_elem? xs i ≡ some b) ⊎ ((i ≡ length xs) × (a ≡ b))
  at_push [] a b zero e = inr (refl, some-injective a b e)
  at_push [] a b (suc i) e = absurd (some-ne-none b (sym e))
  at_push (x ∷ xs) a b zero e = inl e
  at_push (x ∷ xs) a b (suc i) e = ⊎_elim (λ t. inl t) (λ t. inr (ap suc t.0, t.1)) (at_push xs a b i e)

  -- what is true of each of the whole is true of each of its beginning
  pub all_begin : (P : A → Type 0) (xs ys : List A) → IsPrefix xs ys → AllByRecursion P ys → AllByRecursion P xs
  all_begin P [] ys p h = tt
  all_begin P (x ∷ xs) [] p h = absurd (cc (p.1))
  all_begin P (x ∷ xs) (y ∷ ys) p h = let same : y ≡ x = cc (p.1) in (subst P same h.0, all_begin P xs ys (p.0, cc (p.1)) h.1)

  pub all_push : (P : A → Type 0) (xs : List A) (a : A) → AllByRecursion P xs → P a → AllByRecursion P (xs ++ a ∷ [])
  all_push P [] a h is = (is, tt)
  all_push P (x ∷ xs) a h is = (h.0, all_push P xs a h.1 is)

  -- what is true at each place is true of each
  pub each_all : (P : A → Type 0) (xs : List A) → ((i : ℕ) (a : A) → get_elem? xs i ≡ some a → P a) → AllByRecursion P xs
  each_all P [] h = tt
  each_all P (x ∷ xs) h = (h 0 x refl, each_all P xs (λ i a e. h (suc i) a e))
