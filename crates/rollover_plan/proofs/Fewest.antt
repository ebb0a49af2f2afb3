-- Waves that have every leaf are not fewer than full ones.
use Rattle.std.proofs.Common.{◌≡◌, ℕ, zero, suc, ◌+◌, ◌*◌, ◌<◌, ◌≤◌, List, [], ◌∷◌, ◌++◌, length, refl, inl, inr, arith}
use Rattle.std.specs.List.{AllByRecursion, concat}
use Rattle.std.proofs.lemmas.Bool.{cases_eq}
use Rattle.std.proofs.lemmas.List.{length-append}
use Rattle.std.proofs.Math.Nat.{suc-mul, lt_of_mul-lt-mul_right}
use Rattle.rollover_plan.specs.Plan.{IsCutInWaves, IsFewest, times, one_if_same}
use Rattle.rollover_plan.proofs.Once.{one_here, none_here}
use Rattle.rollover_plan.proofs.Cuts.{cut_full}

-- how often the leaves below n stand in a list
abbrev total : ℕ → List ℕ → ℕ
total zero xs = 0
total (suc n) xs = times n xs + total n xs

total_none : (n : ℕ) → total n [] ≡ 0
total_none zero = refl
total_none (suc n) = omega (arith, total_none n)

-- one that is not below n counts for nothing
total_past : (n x : ℕ) (xs : List ℕ) → n ≤ x → total n (x ∷ xs) ≡ total n xs
total_past zero x xs past = refl
total_past (suc n) x xs past =
    let here : one_if_same x n ≡ 0 = none_here x n (λ same. omega arith) in
    let rest : total n (x ∷ xs) ≡ total n xs = total_past n x xs (omega arith) in
    omega arith

-- and any other for one
total_more : (n x : ℕ) (xs : List ℕ) → total n (x ∷ xs) ≤ total n xs + 1
total_more zero x xs = omega arith
total_more (suc n) x xs =
    elim (cases_eq x n) [
      | inl same ↦
          let here : one_if_same x n ≡ 1 = one_here x n same in
          let rest : total n (x ∷ xs) ≡ total n xs = total_past n x xs (omega arith) in
          omega arith
      | inr other ↦
          let here : one_if_same x n ≡ 0 = none_here x n other in
          let rest : total n (x ∷ xs) ≤ total n xs + 1 = total_more n x xs in
          omega arith
    ]

total_within : (n : ℕ) (xs : List ℕ) → total n xs ≤ length xs
total_within n [] = omega (arith, total_none n)
total_within n (x ∷ xs) = omega (arith, total_more n x xs, total_within n xs)

total_all : (n : ℕ) (xs : List ℕ) → ((leaf : ℕ) → leaf < n → 0 < times leaf xs) → n ≤ total n xs
total_all zero xs all = omega arith
total_all (suc n) xs all =
    let here : 0 < times n xs = all n (omega arith) in
    let rest : n ≤ total n xs = total_all n xs (λ leaf below. all leaf (omega arith)) in
    omega arith

-- so many stand in waves of at most so many
joined_within : (share : ℕ) (waves : List (List ℕ)) → AllByRecursion (λ wave. length wave ≤ share) waves → length (concat waves) ≤ length waves * share
joined_within share [] few = omega arith
joined_within share (wave ∷ waves) few =
    let here : length wave ≤ share = few.0 in
    let rest : length (concat waves) ≤ length waves * share = joined_within share waves few.1 in
    let more : suc (length waves) * share ≡ length waves * share + share = suc-mul (length waves) share in
    let both : length (wave ++ concat waves) ≡ length wave + length (concat waves) = length-append wave (concat waves) in
    omega arith

pub cut_fewest : (n share : ℕ) (leaves : List ℕ) (waves : List (List ℕ)) → length leaves ≡ n → 0 < share → IsCutInWaves share leaves waves → IsFewest n share waves
cut_fewest n share leaves waves count some cut others all few =
    let held : n ≤ total n (concat others) = total_all n (concat others) all in
    let within : total n (concat others) ≤ length (concat others) = total_within n (concat others) in
    let joined : length (concat others) ≤ length others * share = joined_within share others few in
    let full : length waves * share < length leaves + share = cut_full share leaves waves cut some in
    let more : suc (length others) * share ≡ length others * share + share = suc-mul (length others) share in
    let products : length waves * share < suc (length others) * share = omega arith in
    let fewer : length waves < suc (length others) = lt_of_mul-lt-mul_right share products in
    omega arith
