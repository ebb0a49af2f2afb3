-- Elements of lists at their places, and what holds of each.
use Rattle.std.proofs.Common.{◌≡◌, ℕ, zero, suc, ◌<◌, List, [], ◌∷◌, ◌++◌, length, map, refl, sym, ap, subst, ◌∙◌, arith, Bool, true, false, Some}
use Rattle.std.specs.Prelude.{IsPermutation, option_map, slice_get, slice_set, bytes_eq, cond}
use Rattle.std.specs.List.{AllByRecursion}
use Rattle.std.proofs.lemmas.List.Elements.{All-from_recursion, recursion_from_All}
use Rattle.std.proofs.lemmas.List.Sorted.{All-permutation}
use Rattle.std.proofs.lemmas.Option.{same_Some, slice_get-map}
use Rattle.std.proofs.lemmas.Slice.Eq.{bytes_eq-Decides}
use Rattle.transcript.specs.Pieces.{place_among}

pub same_first : {X : Type 0} (a b : X) (us vs : List X) → a ∷ us ≡ b ∷ vs → a ≡ b
same_first a b us vs e = cc

pub same_rest : {X : Type 0} (a b : X) (us vs : List X) → a ∷ us ≡ b ∷ vs → us ≡ vs
same_rest a b us vs e = cc

module _ {X : Type 0} (P : X → Type 0) where
  pub All-joined : (xs ys : List X) → AllByRecursion P xs → AllByRecursion P ys → AllByRecursion P (xs ++ ys)
  All-joined [] ys a b = b
  All-joined (x ∷ xs) ys a b = (a.0, All-joined xs ys a.1 b)

  pub All-both : (xs ys : List X) → AllByRecursion P (xs ++ ys) → AllByRecursion P xs × AllByRecursion P ys
  All-both [] ys a = (tt, a)
  All-both (x ∷ xs) ys a = let others = All-both xs ys a.1 in ((a.0, others.0), others.1)

  pub All-reordered : (xs ys : List X) → IsPermutation xs ys → AllByRecursion P xs → AllByRecursion P ys
  All-reordered xs ys same a = recursion_from_All P ys (All-permutation P xs ys same (All-from_recursion P xs a))

  -- the element at a place
  pub each_at : (xs : List X) → AllByRecursion P xs → (i : ℕ) (x : X) → slice_get xs i ≡ Some x → P x
  each_at [] all i x at = absurd cc
  each_at (y ∷ ys) all zero x at = subst P (same_Some y x at) all.0
  each_at (y ∷ ys) all (suc i) x at = each_at ys all.1 i x at

-- what follows for each
pub All-therefore : {X : Type 0} (P Q : X → Type 0) → ((x : X) → P x → Q x) → (xs : List X) → AllByRecursion P xs → AllByRecursion Q xs
All-therefore P Q f [] all = tt
All-therefore P Q f (x ∷ xs) all = (f x all.0, All-therefore P Q f xs all.1)

module _ {X : Type 0} where
  pub get_of_set : (xs : List X) (i : ℕ) (x y : X) → slice_get xs i ≡ Some x → slice_get (slice_set xs i y) i ≡ Some y
  get_of_set [] i x y at = absurd cc
  get_of_set (z ∷ zs) zero x y at = refl
  get_of_set (z ∷ zs) (suc i) x y at = get_of_set zs i x y at

  pub get_beside_set : (xs : List X) (i j : ℕ) (y : X) → (i ≡ j → ⊥) → slice_get (slice_set xs i y) j ≡ slice_get xs j
  get_beside_set [] i j y apart = refl
  get_beside_set (z ∷ zs) zero zero y apart = absurd (apart refl)
  get_beside_set (z ∷ zs) zero (suc j) y apart = refl
  get_beside_set (z ∷ zs) (suc i) zero y apart = refl
  get_beside_set (z ∷ zs) (suc i) (suc j) y apart = get_beside_set zs i j y (λ e. apart (ap suc e))

  -- in a list with one more behind
  pub get_behind : (xs : List X) (y : X) (i : ℕ) (x : X) → slice_get (xs ++ y ∷ []) i ≡ Some x → (i < length xs → ⊥) → (i ≡ length xs) × (y ≡ x)
  get_behind [] y zero x at past = (refl, same_Some y x at)
  get_behind [] y (suc i) x at past = absurd cc
  get_behind (z ∷ zs) y zero x at past = absurd (past (omega arith))
  get_behind (z ∷ zs) y (suc i) x at past =
      let more = get_behind zs y i x at (λ l. past (omega (arith, l))) in
      (ap suc more.0, more.1)

  pub get_before : (xs ys : List X) (i : ℕ) → i < length xs → slice_get (xs ++ ys) i ≡ slice_get xs i
  get_before [] ys i l = absurd (omega (arith, l))
  get_before (z ∷ zs) ys zero l = refl
  get_before (z ∷ zs) ys (suc i) l = get_before zs ys i (omega (arith, l))

pub get_mapped : {X Y : Type 0} (f : X → Y) (xs : List X) (i : ℕ) (x : X) → slice_get xs i ≡ Some x → slice_get (map f xs) i ≡ Some (f x)
get_mapped f xs i x at = slice_get-map f xs i ∙ ap (option_map f) at

-- an element of a mapped list comes from one
pub get_unmapped : {X Y : Type 0} (f : X → Y) (xs : List X) (i : ℕ) (y : Y) → slice_get (map f xs) i ≡ Some y → (x : X) × (slice_get xs i ≡ Some x) × (f x ≡ y)
get_unmapped f [] i y at = absurd cc
get_unmapped f (z ∷ zs) zero y at = (z, refl, same_Some (f z) y at)
get_unmapped f (z ∷ zs) (suc i) y at = get_unmapped f zs i y at

-- the name at the place of a name that there is
pub name_there : (name : List ℕ) (names : List (List ℕ)) → place_among name names < length names → slice_get names (place_among name names) ≡ Some name
name_there name [] below = absurd (omega (arith, below))
name_there name (n ∷ ns) below = by (bytes_eq name n) refl below (λ l. name_there name ns l)
  where
    by : (b : Bool) → bytes_eq name n ≡ b → cond b 0 (suc (place_among name ns)) < suc (length ns) → (place_among name ns < length ns → slice_get ns (place_among name ns) ≡ Some name)
        → slice_get (n ∷ ns) (cond b 0 (suc (place_among name ns))) ≡ Some name
    by true e l further = ap (λ m. Some m) (sym ((bytes_eq-Decides name n).0 e))
    by false e l further = further (omega (arith, l))
