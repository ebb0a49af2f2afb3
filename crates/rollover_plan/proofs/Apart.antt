-- The leaves of turns that follow one another stand apart.
use Rattle.std.proofs.Common.{◌≡◌, ◌≢◌, ℕ, zero, suc, ◌+◌, ◌-◌, ◌*◌, ◌/◌, ◌<◌, ◌≤◌, min, List, [], ◌∷◌, map, take, drop, sym, ap, ◌∙◌, subst, arith}
use Rattle.std.specs.List.{AllByRecursion, range_with_len}
use Rattle.rollover_plan.specs.Plan.{IsCutInWaves, AreOnOwnMachines}
use Rattle.rollover_plan.proofs.Turns.{leaf_at, machine_of, leaf_below, turns_apart}

module _ (f : ℕ → ℕ) where
  pub all_turns : (P : ℕ → Type 0) (a k : ℕ) → ((i : ℕ) → a ≤ i → i < a + k → P (f i)) → AllByRecursion P (map f (range_with_len a k))
  all_turns P a zero each = tt
  all_turns P a (suc k) each = (each a (omega arith) (omega arith), all_turns P (a + 1) k (λ i l u. each i (omega arith) (omega arith)))

  -- the first of some turns
  take_turns : (n a k : ℕ) → take n (map f (range_with_len a k)) ≡ map f (range_with_len a (min n k))
  take_turns zero a k = let none : 0 ≡ min 0 k = omega arith in ap (λ j. map f (range_with_len a j)) none
  take_turns (suc n) a zero = let none : 0 ≡ min (suc n) 0 = omega arith in ap (λ j. map f (range_with_len a j)) none
  take_turns (suc n) a (suc k) =
      let more : suc (min n k) ≡ min (suc n) (suc k) = omega arith in
      ap (λ ls. f a ∷ ls) (take_turns n (a + 1) k) ∙ ap (λ j. map f (range_with_len a j)) more

  -- and the rest
  drop_turns : (n a k : ℕ) → drop n (map f (range_with_len a k)) ≡ map f (range_with_len (a + min n k) (k - n))
  drop_turns zero a k =
      let first : a ≡ a + min 0 k = omega arith in
      let all : k ≡ k - 0 = omega arith in
      ap (λ i. map f (range_with_len i k)) first ∙ ap (λ j. map f (range_with_len (a + min 0 k) j)) all
  drop_turns (suc n) a zero = let none : 0 ≡ 0 - suc n = omega arith in ap (λ j. map f (range_with_len (a + min (suc n) 0) j)) none
  drop_turns (suc n) a (suc k) =
      let first : a + 1 + min n k ≡ a + min (suc n) (suc k) = omega arith in
      let left : k - n ≡ suc k - suc n = omega arith in
      drop_turns n (a + 1) k ∙ ap (λ i. map f (range_with_len i (k - n))) first ∙ ap (λ j. map f (range_with_len (a + min (suc n) (suc k)) j)) left

module _ (m p : ℕ) (some : 0 < m) where
  -- every leaf is known
  pub leaves_known : AllByRecursion (λ leaf. leaf < m * p) (map (leaf_at m p) (range_with_len 0 (m * p)))
  leaves_known = all_turns (leaf_at m p) (λ leaf. leaf < m * p) 0 (m * p) (λ i l u. leaf_below m p i some (omega arith))

  apart_turns : (a k : ℕ) → k ≤ m → a + k ≤ m * p → AreOnOwnMachines p (map (leaf_at m p) (range_with_len a k))
  apart_turns a zero short inside = tt
  apart_turns a (suc k) short inside = (
    all_turns (leaf_at m p) (λ other. other / p ≢ leaf_at m p a / p) (a + 1) k
        (λ i l u same. turns_apart m a i (omega arith) (omega arith) (sym (machine_of m p i some (omega arith)) ∙ same ∙ machine_of m p a some (omega arith))),
    apart_turns (a + 1) k (omega arith) (omega arith),
  )

  -- a wave has at most one leaf of a machine
  pub cut_apart : (share : ℕ) → share ≤ m → (a k : ℕ) → a + k ≤ m * p → (waves : List (List ℕ)) → IsCutInWaves share (map (leaf_at m p) (range_with_len a k)) waves
      → AllByRecursion (λ wave. AreOnOwnMachines p wave) waves
  cut_apart share most a k inside [] cut = tt
  cut_apart share most a k inside (wave ∷ waves) cut = (
    subst (AreOnOwnMachines p) (sym (cut.1 ∙ take_turns (leaf_at m p) share a k)) (apart_turns a (min share k) (omega arith) (omega arith)),
    cut_apart share most (a + min share k) (k - share) (omega arith) waves (subst (λ ls. IsCutInWaves share ls waves) (drop_turns (leaf_at m p) share a k) cut.2),
  )
