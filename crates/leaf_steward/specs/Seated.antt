-- The tables of a leaf, and the steward's seats at them.
use Rattle.std.specs.Prelude.{◌≡◌, ◌⊎◌, ℕ, ◌≤◌, true, false, List, [], ◌∷◌, length, map, slice_get, slice_set, Some}
use Rattle.std.specs.List.{AllByRecursion}
use Rattle.leaf_history.specs.History.{LegalFrom}
use Rattle.region_layout.specs.Names.{AreNames}
use Rattle.turnstile.specs.Seats.{IsSeatOf, unused_seat}
use Rattle.leaf_table.specs.Turns.{Shared, is_founded, start_of}
use Rattle.leaf_table.specs.Calls.{SeatView, SeesShut, base_seen, name_of, seen_of, state_seen, IsFresh}
use Rattle.crash_moments.specs.Watched.{Watched}

-- the names of the tables, the tables in that order, and the seat at each
pub record Seated : Type 0 where
  pub names : List (List ℕ)
  pub tables : List Shared
  pub seats : List SeatView

-- P holds of each table and its seat, by the index of the table
abbrev pub AtEach : (ℕ → Shared → SeatView → Type 0) → Seated → Type 0
AtEach P x = (place : ℕ) (t : Shared) (v : SeatView) → slice_get x.tables place ≡ Some t → slice_get x.seats place ≡ Some v → P place t v

-- P holds of the table with this index and its seat
abbrev pub AtPlace : (Shared → SeatView → Type 0) → Seated → ℕ → Type 0
AtPlace P x place = (t : Shared) (v : SeatView) → slice_get x.tables place ≡ Some t → slice_get x.seats place ≡ Some v → P t v

-- The steward's seat at a table: it has the id 0 alone and took over no other, what it has seen is legal, and only an
-- entry after the 2^62nd takes room.
pub record IsSeated (t : Shared) (v : SeatView) : Type 0 where
  pub seat : IsSeatOf v t.site
  pub id : v.id ≡ 0
  pub share : v.share ≡ 1
  pub none_taken : v.taken ≡ []
  pub legal : LegalFrom (is_founded (base_seen t)) (start_of (base_seen t)) (seen_of v)
  pub room : IsFresh v → 1024 ≤ v.room

-- each table is founded
abbrev pub AreFounded : Seated → Type 0
AreFounded x = AllByRecursion (λ (t : Shared). is_founded (base_seen t) ≡ true) x.tables

-- each table is founded, or none is
abbrev pub AreAlike : Seated → Type 0
AreAlike x = AreFounded x ⊎ AllByRecursion (λ (t : Shared). is_founded (base_seen t) ≡ false) x.tables

-- the invariant of a leaf's seats
pub record AreSeated (x : Seated) : Type 0 where
  pub alike : AreAlike x
  pub named : AreNames x.names
  pub names : map name_of x.tables ≡ x.names
  pub count : length x.seats ≡ length x.tables
  pub each : AtEach (λ place t v. IsSeated t v) x

-- the seat may make n more entries, even after the 2^62nd
abbrev pub Spares : ℕ → Shared → SeatView → Type 0
Spares n t v = n ≤ v.room

-- a table as its seat has seen it
abbrev pub watched : Shared → SeatView → Watched
watched t v = record { name = name_of t; base = start_of (base_seen t); seen = seen_of v }

abbrev pub watch : List Shared → List SeatView → List Watched
watch [] vs = []
watch (t ∷ ts) [] = []
watch (t ∷ ts) (v ∷ vs) = watched t v ∷ watch ts vs

abbrev pub watched_by : Seated → List Watched
watched_by x = watch x.tables x.seats

-- the seat at this table is replaced
abbrev pub with_seat : Seated → ℕ → SeatView → Seated
with_seat x place v = record { names = x.names; tables = x.tables; seats = slice_set x.seats place v }

-- an unused seat, at a shut table
pub record IsUnused (t : Shared) (v : SeatView) : Type 0 where
  pub unused : v ≡ unused_seat t.site 0 1 1024
  pub seat : IsSeatOf v t.site
  pub shut : SeesShut t v
