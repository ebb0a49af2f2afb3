-- The tables of a leaf, of which one has another entry.
use Rattle.std.proofs.Common.{◌≡◌, ◌∙◌, ℕ, zero, suc, false, List, [], ◌∷◌, ◌++◌, Some, sym, subst}
use Rattle.std.specs.Prelude.{slice_get, slice_set, bytes_eq}
use Rattle.std.specs.List.{AllByRecursion}
use Rattle.std.proofs.lemmas.Bool.{false≢true, false_from_ne_true}
use Rattle.std.proofs.lemmas.Option.{same_Some}
use Rattle.std.proofs.lemmas.Slice.Eq.{bytes_eq-Decides}
use Rattle.leaf_history.specs.History.{Entry}
use Rattle.crash_moments.specs.Watched.{Watched, AreApart, Between}
use Rattle.crash_moments.specs.Told.{SeenMore}
use Rattle.crash_moments.proofs.Telling.{none_more}
use Rattle.crash_states.proofs.Names.{unlike_at}

pub each_more : (P Q : Watched → Type 0) → ((w : Watched) → P w → Q w) → (ws : List Watched) → AllByRecursion P ws → AllByRecursion Q ws
each_more P Q f [] each = tt
each_more P Q f (w ∷ ws) each = (f w each.0, each_more P Q f ws each.1)

unlike : (a b : List ℕ) → bytes_eq a b ≡ false → bytes_eq b a ≡ false
unlike a b other = false_from_ne_true (bytes_eq b a) (λ same. false≢true (sym other ∙ (bytes_eq-Decides a b).1 (sym ((bytes_eq-Decides b a).0 same))))

-- what holds of the changed table, and of each that has another name, holds at each place
pub set_at : (P : Watched → Type 0) (place : ℕ) (w w' : Watched) (ws : List Watched) → AreApart ws → slice_get ws place ≡ Some w → P w'
    → ((at : ℕ) (v : Watched) → slice_get ws at ≡ Some v → bytes_eq v.name w.name ≡ false → P v)
    → (at : ℕ) (v : Watched) → slice_get (slice_set ws place w') at ≡ Some v → P v
set_at P place w w' [] apart there new others at v found = absurd cc
set_at P zero w w' (u ∷ ws) apart there new others zero v found = subst P (same_Some w' v found) new
set_at P zero w w' (u ∷ ws) apart there new others (suc at) v found =
    others (suc at) v found (subst (λ (x : Watched). bytes_eq v.name x.name ≡ false) (same_Some u w there) (unlike u.name v.name (unlike_at u.name ws at v apart.0 found)))
set_at P (suc place) w w' (u ∷ ws) apart there new others zero v found =
    others zero v found (subst (λ (x : Watched). bytes_eq x.name w.name ≡ false) (same_Some u v found) (unlike_at u.name ws place w apart.0 there))
set_at P (suc place) w w' (u ∷ ws) apart there new others (suc at) v found = set_at P place w w' ws apart.1 there new (λ i x is. others (suc i) x is) at v found

-- its seat has seen more
pub set_more : (from to place : ℕ) (w w' : Watched) (ws : List Watched) (more : List Entry) → slice_get ws place ≡ Some w → w'.name ≡ w.name → w'.base ≡ w.base
    → w'.seen ≡ w.seen ++ more → Between from to more → SeenMore from to ws (slice_set ws place w')
set_more from to place w w' [] more at name base seen within = absurd cc
set_more from to zero w w' (v ∷ ws) more at name base seen within =
    subst (λ (u : Watched). SeenMore from to (u ∷ ws) (w' ∷ ws)) (sym (same_Some v w at)) ((name, base, (more, seen, within)), none_more from to ws)
set_more from to (suc place) w w' (v ∷ ws) more at name base seen within =
    ((none_more from to (v ∷ [])).0, set_more from to place w w' ws more at name base seen within)
