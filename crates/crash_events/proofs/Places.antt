-- Facts of each table by its place, and cases that cannot be.
use Rattle.std.proofs.Common.{◌≡◌, ℕ, zero, suc, ◌+◌, ◌<◌, Bool, true, false, List, [], ◌∷◌, map, refl, subst, ◌∙◌, arith, Some, None, slice_get, slice_set, add-zero}
use Rattle.std.specs.Prelude.{◌≢◌}
use Rattle.std.specs.List.{AllByRecursion}
use Rattle.crash_events.specs.Machine.{Tracked, Hand, Closed, Whole, Either, Other}
use Rattle.crash_events.specs.Kept.{AllPlaces}

-- P of each place gives Q of each place
pub Places-weaken : (P Q : ℕ → Tracked → Type 0) → ((t : ℕ) (x : Tracked) → P t x → Q t x) → (b : ℕ) (xs : List Tracked) → AllPlaces P b xs → AllPlaces Q b xs
Places-weaken P Q f b [] h = tt
Places-weaken P Q f b (x ∷ xs) h = (f b x h.0, Places-weaken P Q f (b + 1) xs h.1)

pub some_is : (x y : Tracked) → Some x ≡ Some y → x ≡ y
some_is x y e = cc

next_place : (b i : ℕ) → b + suc i ≡ b + 1 + i
next_place b i = omega arith

-- the tables from a later place on
Places-later : (P Q : ℕ → Tracked → Type 0) (b k c : ℕ) → k < c → ((t : ℕ) (z : Tracked) → t ≢ k → P t z → Q t z) → (xs : List Tracked) → AllPlaces P c xs → AllPlaces Q c xs
Places-later P Q b k c l f [] h = tt
Places-later P Q b k c l f (x ∷ xs) h = (f c x (λ e. omega (arith, e, l)) h.0, Places-later P Q b k (c + 1) (omega (arith, l)) f xs h.1)

pub Places-get : (P : ℕ → Tracked → Type 0) (b i : ℕ) (xs : List Tracked) (x : Tracked) → slice_get xs i ≡ Some x → AllPlaces P b xs → P (b + i) x
Places-get P b i [] x at h = cc
Places-get P b zero (y ∷ xs) x at h = let same : y ≡ x = some_is y x at in rw add-zero (subst (P b) same h.0)
Places-get P b (suc i) (y ∷ xs) x at h = rw (next_place b i) (Places-get P (b + 1) i xs x at h.1)

-- one table is changed, and the others fare otherwise
pub Places-set : (P Q : ℕ → Tracked → Type 0) (b i : ℕ) (xs : List Tracked) (x y : Tracked) → slice_get xs i ≡ Some x
    → ((t : ℕ) (z : Tracked) → t ≢ b + i → P t z → Q t z) → Q (b + i) y → AllPlaces P b xs → AllPlaces Q b (slice_set xs i y)
Places-set P Q b i [] x y at f q h = cc
Places-set P Q b zero (z ∷ xs) x y at f q h = (subst (λ n. Q n y) (add-zero b) q, Places-later P Q b (b + zero) (b + 1) (omega arith) f xs h.1)
Places-set P Q b (suc i) (z ∷ xs) x y at f q h =
    (f b z (λ e. omega (arith, e)) h.0, Places-set P Q (b + 1) i xs x y at (λ t w n. f t w (λ e. n (e ∙ next_place b i))) (subst (λ n. Q n y) (next_place b i) q) h.1)

pub no : {A : Type 0} → false ≡ true → A
no e = absurd (clash false refl e)
  where
    clash : (b : Bool) → b ≡ false → b ≡ true → ⊥
    clash true f t = cc
    clash false f t = cc

pub some_hand : {A : Type 0} (h : Hand) → Some h ≡ None → A
some_hand h e = absurd (wrong e)
  where
    wrong : Some h ≡ None → ⊥
    wrong e = cc

pub closed_is_not_other : {A : Type 0} → Closed ≡ Other → A
closed_is_not_other e = absurd (wrong e)
  where
    wrong : Closed ≡ Other → ⊥
    wrong e = cc

pub whole_is_not_other : {A : Type 0} → Whole ≡ Other → A
whole_is_not_other e = absurd (wrong e)
  where
    wrong : Whole ≡ Other → ⊥
    wrong e = cc

pub either_is_not_other : {A : Type 0} → Either ≡ Other → A
either_is_not_other e = absurd (wrong e)
  where
    wrong : Either ≡ Other → ⊥
    wrong e = cc

pub with_all : (A : Tracked → Type 0) (P : ℕ → Tracked → Type 0) (b : ℕ) (xs : List Tracked) → AllByRecursion A xs → AllPlaces P b xs → AllPlaces (λ t x. A x × P t x) b xs
with_all A P b [] g h = tt
with_all A P b (x ∷ xs) g h = ((g.0, h.0), with_all A P (b + 1) xs g.1 h.1)

pub Places-map : (Q : ℕ → Tracked → Type 0) (g : Tracked → Tracked) (b : ℕ) (xs : List Tracked) → AllPlaces (λ t x. Q t (g x)) b xs → AllPlaces Q b (map g xs)
Places-map Q g b [] h = tt
Places-map Q g b (x ∷ xs) h = (h.0, Places-map Q g (b + 1) xs h.1)
