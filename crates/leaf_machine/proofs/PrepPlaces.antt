-- The places of a list with one element more.
use Rattle.std.proofs.Common.{◌≡◌, ℕ, zero, suc, List, [], ◌∷◌, ◌++◌, length, Some, refl, ap}
use Rattle.std.specs.Prelude.{◌≢◌, slice_get}
use Rattle.std.proofs.lemmas.Option.{none-some, same_Some}

-- an element of a list with one more is the last, or stands where it stood
pub push_get : {A : Type 0} (xs : List A) (y : A) (i : ℕ) (x : A) → slice_get (xs ++ y ∷ []) i ≡ Some x → i ≢ length xs → slice_get xs i ≡ Some x
push_get [] y zero x at apart = absurd (apart refl)
push_get [] y (suc i) x at apart = absurd (none-some x at)
push_get (z ∷ xs) y zero x at apart = at
push_get (z ∷ xs) y (suc i) x at apart = push_get xs y i x at (λ same. apart (ap suc same))

pub push_last : {A : Type 0} (xs : List A) (y : A) (x : A) → slice_get (xs ++ y ∷ []) (length xs) ≡ Some x → y ≡ x
push_last [] y x at = same_Some y x at
push_last (z ∷ xs) y x at = push_last xs y x at
