-- The range of times that are passed one after another.
use Rattle.std.proofs.Common.{◌≡◌, ℕ, ◌+◌, ◌<◌, ◌≤◌, ◌⊎◌, inl, inr, Bool, true, false, ◌&&◌, List, length, slice_index_or, ℤ, pos, ◌≤ℤ◌, int_le, int_lt, cond, refl, sym, ap, subst, ◌∙◌, arith}
use Rattle.std.specs.Int.{int_max, int_min}
use Rattle.std.proofs.Math.Nat.{eq-or-lt_of_le}
use Rattle.std.proofs.lemmas.Int.{clamps, ints}
use Rattle.time_range.specs.Ranges.{IsAmong}

-- of the first n times a least and a greatest, which are among all, and whether they were seen to be in order
pub record ArePassed (times : List ℤ) (n : ℕ) (from to : ℤ) (in_order : Bool) : Type 0 where
  pub least : (i : ℕ) → i < n → from ≤ℤ slice_index_or times i (pos 0)
  pub greatest : (i : ℕ) → i < n → slice_index_or times i (pos 0) ≤ℤ to
  pub first : IsAmong from times
  pub last : IsAmong to times
  pub order : in_order ≡ true → (i j : ℕ) → i ≤ j → j < n → slice_index_or times i (pos 0) ≤ℤ slice_index_or times j (pos 0)

abbrev time : List ℤ → ℕ → ℤ
time times i = slice_index_or times i (pos 0)

up_to : (n i : ℕ) → i < n + 1 → (i ≡ n) ⊎ (i < n)
up_to n i within = eq-or-lt_of_le (omega (arith, within))

both_true : (a b : Bool) → (a && b) ≡ true → (a ≡ true) × (b ≡ true)
both_true true true e = (refl, refl)
both_true true false e = absurd cc
both_true false b e = absurd cc

least_among : (times : List ℤ) (n : ℕ) (from : ℤ) → n < length times → IsAmong from times → IsAmong (int_min from (time times n)) times
least_among times n from within first = by (int_lt (time times n) from) refl
  where
    by : (x : Bool) → int_lt (time times n) from ≡ x → IsAmong (int_min from (time times n)) times
    by true e = (n, within, sym (ap (λ (b : Bool). cond b (time times n) from) e))
    by false e = subst (λ t. IsAmong t times) (sym (ap (λ (b : Bool). cond b (time times n) from) e)) first

greatest_among : (times : List ℤ) (n : ℕ) (to : ℤ) → n < length times → IsAmong to times → IsAmong (int_max to (time times n)) times
greatest_among times n to within last = by (int_lt (time times n) to) refl
  where
    by : (x : Bool) → int_lt (time times n) to ≡ x → IsAmong (int_max to (time times n)) times
    by true e = subst (λ t. IsAmong t times) (sym (ap (λ (b : Bool). cond b to (time times n)) e)) last
    by false e = (n, within, sym (ap (λ (b : Bool). cond b to (time times n)) e))

one_more : (times : List ℤ) (n : ℕ) (from to : ℤ) (in_order : Bool) → n < length times → ArePassed times n from to in_order
    → ArePassed times (n + 1) (int_min from (time times n)) (int_max to (time times n)) (in_order && int_le to (time times n))
one_more times n from to in_order within passed = record {
  least = λ i inside. low i (up_to n i inside);
  greatest = λ i inside. high i (up_to n i inside);
  first = least_among times n from within passed.first;
  last = greatest_among times n to within passed.last;
  order = λ e i j before inside. ordered (both_true in_order (int_le to (time times n)) e) i j before (up_to n j inside) (up_to n i (omega (arith, before, inside)));
}
  where
    low : (i : ℕ) → (i ≡ n) ⊎ (i < n) → int_min from (time times n) ≤ℤ time times i
    low i (inl e) = subst (λ k. int_min from (time times n) ≤ℤ time times k) (sym e) (omega (arith, ints, clamps))
    low i (inr less) = let before = passed.least i less in omega (arith, ints, clamps, before)

    high : (i : ℕ) → (i ≡ n) ⊎ (i < n) → time times i ≤ℤ int_max to (time times n)
    high i (inl e) = subst (λ k. time times k ≤ℤ int_max to (time times n)) (sym e) (omega (arith, ints, clamps))
    high i (inr less) = let before = passed.greatest i less in omega (arith, ints, clamps, before)

    ordered : (in_order ≡ true) × (int_le to (time times n) ≡ true) → (i j : ℕ) → i ≤ j → (j ≡ n) ⊎ (j < n) → (i ≡ n) ⊎ (i < n) → time times i ≤ℤ time times j
    ordered both i j before (inr j_less) i_at = passed.order both.0 i j before j_less
    ordered both i j before (inl j_last) (inl i_last) = subst (λ k. time times i ≤ℤ time times k) (i_last ∙ sym j_last) (omega (arith, ints))
    ordered both i j before (inl j_last) (inr i_less) = subst (λ k. time times i ≤ℤ time times k) (sym j_last) (let low = passed.greatest i i_less in let high = both.1 in omega (arith, ints, low, high))

pub one_passed : (times : List ℤ) (n : ℕ) (from to : ℤ) (in_order : Bool) (t low high : ℤ) → n < length times → ArePassed times n from to in_order
    → t ≡ time times n → low ≡ int_min from t → high ≡ int_max to t → ArePassed times (n + 1) low high (in_order && int_le to t)
one_passed times n from to in_order t low high within passed at least greatest =
    subst (λ x. ArePassed times (n + 1) x high (in_order && int_le to t)) (sym (least ∙ ap (int_min from) at))
    (subst (λ x. ArePassed times (n + 1) (int_min from (time times n)) x (in_order && int_le to t)) (sym (greatest ∙ ap (int_max to) at))
    (subst (λ x. ArePassed times (n + 1) (int_min from (time times n)) (int_max to (time times n)) (in_order && int_le to x)) (sym at)
    (one_more times n from to in_order within passed)))
