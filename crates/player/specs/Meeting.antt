-- Notes by their tables, and meetings of a leaf's steward with its callers.
use Rattle.std.specs.Prelude.{◌≡◌, ℕ, ◌<◌, ◌≤◌, List, length, slice_get, slice_set, Option, Some, IsTrue}
use Rattle.std.specs.List.{AllByRecursion}
use Rattle.berth_face.specs.Berth.{Meaning}
use Rattle.crash_moments.specs.Left.{NamedStates}
use Rattle.leaf_table.specs.Calls.{SeatView}
use Rattle.leaf_words.specs.declared.note.Note.{Note}
use Rattle.leaf_steward.specs.Seated.{AreFounded}
use Rattle.leaf_moves.specs.Stage.{Leaf, MeetsIf, LeafStands, seated_of, with_seats}

-- each note is of one of `count` tables
abbrev pub ArePlaces : ℕ → List Note → Type 0
ArePlaces count notes = AllByRecursion (λ (n : Note). n.table < count) notes

-- ---- meetings

-- at that table the steward's seat and the callers', if there is one, met; no others did
pub record MeetsAt (table : ℕ) (leaf : Leaf) (callers : List (Option SeatView)) (leaf' : Leaf) (callers' : List (Option SeatView)) : Type 0 where
  pub steward : SeatView
  pub caller : Option SeatView
  pub steward_then : SeatView
  pub caller_then : Option SeatView
  pub was : slice_get (seated_of leaf).seats table ≡ Some steward
  pub was_caller : slice_get callers table ≡ Some caller
  pub meets : MeetsIf steward caller steward_then caller_then
  pub leaf_is : leaf' ≡ with_seats leaf (slice_set (seated_of leaf).seats table steward_then)
  pub callers_are : callers' ≡ slice_set callers table caller_then

-- the first k of the steward's seats and of the callers' met
pub record MeetFirst (k : ℕ) (leaf : Leaf) (callers : List (Option SeatView)) (leaf' : Leaf) (callers' : List (Option SeatView)) (m : Meaning) : Type 0 where
  pub seats : List SeatView
  pub leaf_is : leaf' ≡ with_seats leaf seats
  pub count : (length seats ≡ length (seated_of leaf).seats) × (length callers' ≡ length callers)
  pub met : (place : ℕ) (v v' : SeatView) (c c' : Option SeatView) → place < k
      → slice_get (seated_of leaf).seats place ≡ Some v → slice_get callers place ≡ Some c
      → slice_get seats place ≡ Some v' → slice_get callers' place ≡ Some c'
      → MeetsIf v c v' c'
  pub others : (place : ℕ) → k ≤ place → (slice_get seats place ≡ slice_get (seated_of leaf).seats place) × (slice_get callers' place ≡ slice_get callers place)
  pub stands : (base : NamedStates) → IsTrue m.tells → AreFounded (seated_of leaf) → LeafStands base leaf m → LeafStands base leaf' m
