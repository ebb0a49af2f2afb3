-- The tables at the places of their names.
use Rattle.std.proofs.Common.{◌≡◌, ◌∙◌, ℕ, ◌<◌, ◌^◌, List, [], ◌∷◌, map, Option, Some, None, option_map, sym, ap}
use Rattle.std.specs.Prelude.{slice_get}
use Rattle.std.specs.List.{AllByRecursion}
use Rattle.std.proofs.lemmas.Option.{same_Some, slice_get-map}
use Rattle.table_state.specs.Tables.{Table}
use Rattle.leaf_opening.specs.Starts.{AreFresh}

-- ---- what holds of each table

-- nothing is owed of it, and its writes may go on
abbrev pub AreSettled : List Table → Type 0
AreSettled tables = AllByRecursion (λ (t : Table). (t.pending ≡ None) × (t.writes < 2 ^ 63)) tables

pub are_fresh : (tables : List Table) → AreSettled tables → AreFresh tables
are_fresh [] each = tt
are_fresh (t ∷ tables) each = (each.0.0, are_fresh tables each.1)

pub have_room : (tables : List Table) → AreSettled tables → AllByRecursion (λ (t : Table). t.writes < 2 ^ 63) tables
have_room [] each = tt
have_room (t ∷ tables) each = (each.0.1, have_room tables each.1)

-- the table at a name's place is the one that is made of the name
pub table_at : (make : List ℕ → Table) (names : List (List ℕ)) (tables : List Table) (place : ℕ) (name : List ℕ) (t : Table) → tables ≡ map make names → slice_get names place ≡ Some name → slice_get tables place ≡ Some t → t ≡ make name
table_at make names tables place name t is named found =
    same_Some t (make name) (sym found ∙ ap (λ (ts : List Table). slice_get ts place) is ∙ slice_get-map make names place ∙ ap (λ (o : Option (List ℕ)). option_map make o) named)
