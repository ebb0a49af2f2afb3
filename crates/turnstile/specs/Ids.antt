-- Ids of seats, and words on lists.
use Rattle.std.specs.Prelude.{◌≡◌, ◌⊎◌, ℕ, zero, suc, ◌+◌, ◌<◌, ◌≤◌, List, [], ◌∷◌}
use mathlib.Core.List.{IsPrefix}

-- f, summed over a list
abbrev pub total_of : {A : Type 0} → (A → ℕ) → List A → ℕ
total_of f [] = 0
total_of f (x ∷ xs) = f x + total_of f xs

-- x stands in the list
abbrev pub Among : ℕ → List ℕ → Type 0
Among x [] = ⊥
Among x (y ∷ ys) = (x ≡ y) ⊎ Among x ys

-- n numbers, from x on
abbrev pub run_of : ℕ → ℕ → List ℕ
run_of x zero = []
run_of x (suc n) = x ∷ run_of (suc x) n

-- x is one of the `share` ids from `id` on
abbrev pub InShare : ℕ → ℕ → ℕ → Type 0
InShare id share x = (id ≤ x) × (x < id + share)

-- x is one of these, or was taken over
abbrev pub OwnsId : ℕ → ℕ → List ℕ → ℕ → Type 0
OwnsId id share taken x = InShare id share x ⊎ Among x taken

-- one of the lists xs and ys is a prefix of the other, and zs is the longer
pub record LongerOf {A : Type 0} (xs ys zs : List A) : Type 0 where
  pub own : IsPrefix xs zs
  pub theirs : IsPrefix ys zs
  pub one : (zs ≡ xs) ⊎ (zs ≡ ys)
