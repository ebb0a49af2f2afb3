-- What holds at each place of two lists of watched tables, as the lists say it.
use Rattle.std.proofs.Common.{◌≡◌, ◌⊎◌, ℕ, zero, suc, false, List, [], ◌∷◌, length, Some, refl, arith}
use Rattle.std.specs.Prelude.{slice_get}
use Rattle.leaf_model.specs.declared.writes.Write.{Write}
use Rattle.leaf_model.specs.Content.{content}
use Rattle.leaf_history.specs.Calls as call
use Rattle.leaf_history.specs.Replies as reply
use Rattle.crash_moments.specs.Watched.{Watched, now_of}
use Rattle.crash_states.specs.Entries.{Enters}

-- shut, or shut before and left as it was
abbrev pub ShutsOne : ℕ → Watched → Watched → Type 0
ShutsOne clock w w' = (((now_of w).live ≡ false) × (w' ≡ w)) ⊎ ((n : ℕ) × Enters clock call.Shut (reply.Counted n) w w')

abbrev pub OpensOne : ℕ → (List ℕ → List Write) → Watched → Watched → Type 0
OpensOne clock writes w w' = Enters clock (call.Open (length (writes w.name)) (content (writes w.name))) reply.Noted w w'

abbrev pub HandsOne : ℕ → Watched → Watched → Type 0
HandsOne clock w w' = Enters clock call.Done reply.Noted w w'

-- R of the two tables in each place
abbrev pub AtPair : (Watched → Watched → Type 0) → List Watched → List Watched → Type 0
AtPair R ws ws' = (place : ℕ) (w w' : Watched) → slice_get ws place ≡ Some w → slice_get ws' place ≡ Some w' → R w w'

-- what holds of the two tables in each place holds of the lists
module _ (R : Watched → Watched → Type 0) (All : List Watched → List Watched → Type 0) (none : All [] [])
    (more : (w w' : Watched) (ws ws' : List Watched) → R w w' → All ws ws' → All (w ∷ ws) (w' ∷ ws')) where
  pub pairs_all : (ws ws' : List Watched) → length ws' ≡ length ws → AtPair R ws ws' → All ws ws'
  pairs_all [] [] same each = none
  pairs_all [] (w' ∷ ws') same each = absurd (omega (arith, same))
  pairs_all (w ∷ ws) [] same each = absurd (omega (arith, same))
  pairs_all (w ∷ ws) (w' ∷ ws') same each = more w w' ws ws' (each zero w w' refl refl) (pairs_all ws ws' (omega (arith, same)) (λ place u u' here there. each (suc place) u u' here there))
