-- The waves of a rollover. Each machine has per_machine leaves: leaf l is on machine l / per_machine, at place l %
-- per_machine.
use Rattle.std.specs.Prelude.{◌≡◌, ◌≢◌, ◌+◌, ◌*◌, ◌/◌, ◌<◌, ◌≤◌, ℕ, min, max, if◌then◌else◌, List, [], ◌∷◌, length, map, take, drop, ⊤}
use Rattle.std.specs.Bool.{◌==◌}
use Rattle.std.specs.List.{AllByRecursion, concat, flat_map, range_with_len}

-- each wave takes the first of the leaves that are left, as many as the share, until none is left
abbrev pub IsCutInWaves : ℕ → List ℕ → List (List ℕ) → Type 0
IsCutInWaves share leaves [] = leaves ≡ []
IsCutInWaves share leaves (wave ∷ waves) = (0 < length leaves) × (wave ≡ take share leaves) × IsCutInWaves share (drop share leaves) waves

module _ (machines per_machine : ℕ) where
  -- the most leaves of a wave: a share of all in percent, but at least one, and at most one for each machine
  abbrev pub share : ℕ → ℕ
  share percent = min machines (max 1 (machines * per_machine * percent / 100))

  -- the leaves in the order of their place on the machine, then of the machine
  abbrev pub by_place : List ℕ
  by_place = flat_map (λ place. map (λ machine. machine * per_machine + place) (range_with_len 0 machines)) (range_with_len 0 per_machine)

  -- the waves of a rollover: its leaves in order, cut by the share
  abbrev pub IsPlan : ℕ → List (List ℕ) → Type 0
  IsPlan percent waves = IsCutInWaves (share percent) by_place waves

-- ---- what holds of every plan

-- 1 if two numbers are the same, else 0
abbrev pub one_if_same : ℕ → ℕ → ℕ
one_if_same a b = if a == b then 1 else 0

-- how often a leaf stands in a list
abbrev pub times : ℕ → List ℕ → ℕ
times leaf [] = 0
times leaf (other ∷ others) = one_if_same other leaf + times leaf others

-- no two of these leaves are on one machine
abbrev pub AreOnOwnMachines : ℕ → List ℕ → Type 0
AreOnOwnMachines per_machine [] = ⊤
AreOnOwnMachines per_machine (leaf ∷ leaves) = AllByRecursion (λ other. other / per_machine ≢ leaf / per_machine) leaves × AreOnOwnMachines per_machine leaves

-- Each leaf is in just one wave, no other number is in any, no wave has more than the share, and none has two leaves of
-- one machine.
pub record RollsEachOnce (machines per_machine percent : ℕ) (waves : List (List ℕ)) : Type 0 where
  pub once : (leaf : ℕ) → leaf < machines * per_machine → times leaf (concat waves) ≡ 1
  pub known : AllByRecursion (λ wave. AllByRecursion (λ leaf. leaf < machines * per_machine) wave) waves
  pub few : AllByRecursion (λ wave. length wave ≤ share machines per_machine percent) waves
  pub apart : AllByRecursion (λ wave. AreOnOwnMachines per_machine wave) waves

-- no waves that have every leaf, and at most as many in each, are fewer
abbrev pub IsFewest : ℕ → ℕ → List (List ℕ) → Type 0
IsFewest leaves share waves = (others : List (List ℕ)) → ((leaf : ℕ) → leaf < leaves → 0 < times leaf (concat others)) → AllByRecursion (λ wave. length wave ≤ share) others
    → length waves ≤ length others
