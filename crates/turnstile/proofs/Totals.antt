-- Sums over lists.
use Rattle.std.proofs.Common.{◌≡◌, ℕ, zero, suc, ◌+◌, ◌≤◌, List, [], ◌∷◌, ◌++◌, set, sym, arith, refl, ap}
use mathlib.Core.Option.{some, some-ne-none, some-injective}
use lib.ListN.{get_elem?}
use Rattle.turnstile.specs.Ids.{total_of}

module _ {A : Type 0} (f : A → ℕ) where
  pub total_set : (l : List A) (i : ℕ) (a b : A) → get_elem? l i ≡ some a → total_of f (set l i b) + f a ≡ total_of f l + f b
  total_set [] i a b e = absurd (some-ne-none a (sym e))
  total_set (x ∷ xs) zero a b e = let same : f x ≡ f a = ap f (some-injective x a e) in omega arith
  total_set (x ∷ xs) (suc i) a b e = let t = total_set xs i a b e in omega arith

  pub total_at : (l : List A) (i : ℕ) (a : A) → get_elem? l i ≡ some a → f a ≤ total_of f l
  total_at [] i a e = absurd (some-ne-none a (sym e))
  total_at (x ∷ xs) zero a e = let same : f x ≡ f a = ap f (some-injective x a e) in omega arith
  total_at (x ∷ xs) (suc i) a e = let t = total_at xs i a e in omega arith

  pub total_snoc : (l : List A) (a : A) → total_of f (l ++ a ∷ []) ≡ total_of f l + f a
  total_snoc [] a = omega arith
  total_snoc (x ∷ xs) a = let t = total_snoc xs a in omega arith

  pub total_below : (g : A → ℕ) (l : List A) → ((i : ℕ) (a : A) → get_elem? l i ≡ some a → f a ≤ g a) → total_of f l ≤ total_of g l
  total_below g [] h = omega arith
  total_below g (x ∷ xs) h = let a = h 0 x refl in let t = total_below g xs (λ i y e. h (suc i) y e) in omega arith
