-- Keys that a list holds are no more than it is long, where equal ones count once.
use Rattle.std.proofs.Common.{cond, ◌≡◌, ◌≤◌, Bool, true, false, ◌||◌, List, [], ◌∷◌, length, refl, sym, ap, ◌∙◌, arith}
use Rattle.std.specs.Cmp.{IsEquivalence}
use Rattle.std.specs.List.{AllByRecursion}
use Rattle.std.specs.Set.{distinct_count, is_member, remove_key, unique_keys}
use Rattle.std.proofs.lemmas.Bool.{false≢true}
use Rattle.std.proofs.lemmas.Map.Made.{length-remove_key}

module _ {K : Type 0} {eq : K → K → Bool} (laws : IsEquivalence eq) where
  -- a key that is not equal to x stays where the first that is equal to x goes
  stays : (x y : K) (ys : List K) → eq x y ≡ false → is_member eq ys y ≡ true → is_member eq (remove_key (eq x) ys) y ≡ true
  stays x y [] apart m = m
  stays x y (z ∷ ys) apart m = by (eq x z) (eq y z) refl refl m (stays x y ys apart)
    where
      by : (a b : Bool) → eq x z ≡ a → eq y z ≡ b → (b || is_member eq ys y) ≡ true → (is_member eq ys y ≡ true → is_member eq (remove_key (eq x) ys) y ≡ true)
          → is_member eq (cond a ys (z ∷ remove_key (eq x) ys)) y ≡ true
      by true true first second n rest = absurd (false≢true (sym apart ∙ laws.symm x y ∙ laws.congr y z x second ∙ laws.symm z x ∙ first))
      by true false first second n rest = n
      by false true first second n rest = ap (λ (b : Bool). b || is_member eq (remove_key (eq x) ys) y) second
      by false false first second n rest = ap (λ (b : Bool). b || is_member eq (remove_key (eq x) ys) y) second ∙ rest n

  all_stay : (x : K) (xs ys : List K) → is_member eq xs x ≡ false → AllByRecursion (λ y. is_member eq ys y ≡ true) xs
      → AllByRecursion (λ y. is_member eq (remove_key (eq x) ys) y ≡ true) xs
  all_stay x [] ys absent all = tt
  all_stay x (y ∷ xs) ys absent all = by (eq x y) refl absent (λ others. all_stay x xs ys others all.1)
    where
      by : (b : Bool) → eq x y ≡ b → (b || is_member eq xs x) ≡ false → (is_member eq xs x ≡ false → AllByRecursion (λ z. is_member eq (remove_key (eq x) ys) z ≡ true) xs)
          → AllByRecursion (λ z. is_member eq (remove_key (eq x) ys) z ≡ true) (y ∷ xs)
      by true same none rest = absurd (false≢true (sym none))
      by false apart none rest = (stays x y ys apart all.0, rest none)

  pub few_distinct : (xs ys : List K) → AllByRecursion (λ x. is_member eq ys x ≡ true) xs → distinct_count eq xs ≤ length ys
  few_distinct [] ys all = omega arith
  few_distinct (x ∷ xs) ys all =
      by (is_member eq xs x) refl (few_distinct xs ys all.1) (λ absent. few_distinct xs (remove_key (eq x) ys) (all_stay x xs ys absent all.1))
    where
      by : (b : Bool) → is_member eq xs x ≡ b → distinct_count eq xs ≤ length ys → (is_member eq xs x ≡ false → distinct_count eq xs ≤ length (remove_key (eq x) ys))
          → length (cond b (unique_keys eq xs) (x ∷ unique_keys eq xs)) ≤ length ys
      by true found few rest = few
      by false absent few rest = omega (arith, rest absent, length-remove_key (eq x) ys all.0)
