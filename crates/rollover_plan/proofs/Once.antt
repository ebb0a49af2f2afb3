-- Each leaf has one turn.
use Rattle.std.proofs.Common.{◌≡◌, ◌≢◌, ℕ, zero, suc, ◌+◌, ◌*◌, ◌<◌, ◌≤◌, map, refl, ap, ◌∙◌, inl, inr, arith}
use Rattle.std.specs.List.{range_with_len}
use Rattle.std.proofs.lemmas.Bool.{cases_eq}
use Rattle.std.proofs.lemmas.Bool.Decides.{nat_tests}
use Rattle.rollover_plan.specs.Plan.{by_place, times, one_if_same}
use Rattle.rollover_plan.proofs.Turns.{leaf_at, by_turns, turn_of, turn_below, leaf_of_turn, only_turn}

pub one_here : (x leaf : ℕ) → x ≡ leaf → one_if_same x leaf ≡ 1
one_here x leaf same = grind (arith, nat_tests)

pub none_here : (x leaf : ℕ) → x ≢ leaf → one_if_same x leaf ≡ 0
none_here x leaf other = grind (arith, nat_tests)

module _ (f : ℕ → ℕ) (leaf : ℕ) where
  no_turn : (a k : ℕ) → ((i : ℕ) → a ≤ i → i < a + k → f i ≢ leaf) → times leaf (map f (range_with_len a k)) ≡ 0
  no_turn a zero other = refl
  no_turn a (suc k) other =
      let here : one_if_same (f a) leaf ≡ 0 = none_here (f a) leaf (other a (omega arith) (omega arith)) in
      let rest : times leaf (map f (range_with_len (a + 1) k)) ≡ 0 = no_turn (a + 1) k (λ i l u. other i (omega arith) (omega arith)) in
      omega arith

  one_turn : (t a k : ℕ) → a ≤ t → t < a + k → f t ≡ leaf → ((i : ℕ) → a ≤ i → i < a + k → f i ≡ leaf → i ≡ t) → times leaf (map f (range_with_len a k)) ≡ 1
  one_turn t a zero low high is only = absurd (omega arith)
  one_turn t a (suc k) low high is only =
      elim (cases_eq a t) [
        | inl same ↦
            let here : one_if_same (f a) leaf ≡ 1 = one_here (f a) leaf (ap f same ∙ is) in
            let rest : times leaf (map f (range_with_len (a + 1) k)) ≡ 0 = no_turn (a + 1) k (λ i l u e. absurd (omega (arith, only i (omega arith) (omega arith) e))) in
            omega arith
        | inr later ↦
            let here : one_if_same (f a) leaf ≡ 0 = none_here (f a) leaf (λ e. later (only a (omega arith) (omega arith) e)) in
            let rest : times leaf (map f (range_with_len (a + 1) k)) ≡ 1 = one_turn t (a + 1) k (omega arith) (omega arith) is (λ i l u e. only i (omega arith) (omega arith) e) in
            omega arith
      ]

pub leaf_once : (m p leaf : ℕ) → 0 < m → 0 < p → leaf < m * p → times leaf (by_place m p) ≡ 1
leaf_once m p leaf machines places below =
    ap (times leaf) (by_turns m p machines) ∙
    one_turn (leaf_at m p) leaf (turn_of m p leaf) 0 (m * p) (omega arith) (omega (arith, turn_below m p leaf below places)) (leaf_of_turn m p leaf below places)
    (λ i l u e. only_turn m p i leaf machines (omega arith) e)
