-- Where one of two lists that compare from the left ends, the longer one is the greater.
use Rattle.std.proofs.Common.{◌≡◌, ℕ, suc, ◌≤◌, List, [], ◌∷◌, length, drop, refl, ◌∙◌, arith}
use Rattle.std.specs.Ordering.{nat_cmp}
use Rattle.std.specs.Cmp.Lexicographic.{slice_cmp}
use Rattle.std.specs.declared.cmp.Ordering.{Ordering}
use Rattle.std.specs.declared.cmp.Ordering.TheVariants.{Less, Greater}
use Rattle.std.proofs.lemmas.Bool.Decides.{nat_tests}

zero_first : (n : ℕ) → Less ≡ nat_cmp 0 (suc n)
zero_first n = grind (arith, nat_tests)

zero_last : (n : ℕ) → Greater ≡ nat_cmp (suc n) 0
zero_last n = grind (arith, nat_tests)

one_less : (m n : ℕ) → nat_cmp m n ≡ nat_cmp (suc m) (suc n)
one_less m n = grind (arith, nat_tests)

pub left_ends : {X : Type 0} (c : X → X → Ordering) (a b : List X) → length a ≤ length b → slice_cmp c (drop (length a) a) (drop (length a) b) ≡ nat_cmp (length a) (length b)
left_ends c [] [] h = refl
left_ends c [] (y ∷ b) h = zero_first (length b)
left_ends c (x ∷ a) [] h = absurd (omega arith)
left_ends c (x ∷ a) (y ∷ b) h = left_ends c a b (omega arith) ∙ one_less (length a) (length b)

pub right_ends : {X : Type 0} (c : X → X → Ordering) (a b : List X) → length b ≤ length a → slice_cmp c (drop (length b) a) (drop (length b) b) ≡ nat_cmp (length a) (length b)
right_ends c [] [] h = refl
right_ends c (x ∷ a) [] h = zero_last (length a)
right_ends c [] (y ∷ b) h = absurd (omega arith)
right_ends c (x ∷ a) (y ∷ b) h = right_ends c a b (omega arith) ∙ one_less (length a) (length b)
