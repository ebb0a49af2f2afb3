-- A leaf and its callers' seats, as a player holds them, and what region and disk hold of it. The run has a callers'
-- seat at each table; a lane has one only where it needs it.
use Rattle.std.specs.Prelude.{◌≡◌, ℕ, List, length, slice_get, Some, None, Option, IsTrue}
use Rattle.leaf_model.specs.declared.writes.Write.{Write}
use Rattle.row_records.specs.Records.{LogRecord}
use Rattle.berth_face.specs.Berth.{Meaning}
use Rattle.turnstile.specs.Seats.{AreIds, LearnsOthers, SeesAlso}
use Rattle.leaf_table.specs.Calls.{SeatView}
use Rattle.crash_moments.specs.Left.{NamedStates}
use Rattle.crash_moments.specs.Watched.{IsFoundation}
use Rattle.crash_moments.specs.Told as moments
use Rattle.crash_states.specs.Standing.{Runs, Rests}
use Rattle.leaf_words.specs.declared.note.Note.{Note}
use Rattle.leaf_steward.specs.Seated.{Seated, AreFounded, watched_by}
use Rattle.leaf_steward.specs.Making.{Makes}
use Rattle.leaf_machine.specs.States.{Serving, Shutting}

-- a leaf: at rest, serving its tables, or shutting them
pub data Leaf : Type 0 where
  IsDown : (leaf : Seated) → Leaf
  IsUp : (leaf : Serving) → Leaf
  IsPreparing : (leaf : Shutting) → Leaf

-- its tables, and the steward's seats at them
abbrev pub seated_of : Leaf → Seated
seated_of (IsDown x) = x
seated_of (IsUp x) = x.seated
seated_of (IsPreparing x) = x.serving.seated

-- the same leaf, with these seats
abbrev pub seated_with : Seated → List SeatView → Seated
seated_with x seats = record { names = x.names; tables = x.tables; seats = seats }

abbrev pub serving_with : Serving → List SeatView → Serving
serving_with x seats = record { seated = seated_with x.seated seats; owing = x.owing }

abbrev pub with_seats : Leaf → List SeatView → Leaf
with_seats (IsDown x) seats = IsDown (seated_with x seats)
with_seats (IsUp x) seats = IsUp (serving_with x seats)
with_seats (IsPreparing x) seats = IsPreparing (record { serving = serving_with x.serving seats; closed = x.closed; waits = x.waits })

-- ---- what region and disk hold of a leaf

-- region and disk hold what belongs to a leaf that serves its tables
abbrev pub ServingStands : Serving → Meaning → Type 0
ServingStands x m = (writes : List ℕ → List Write) × Runs (watched_by x.seated) x.owing.owner x.owing.log writes m

-- region and disk hold what belongs to the leaf; `base` is the base of names that it does not have
abbrev pub LeafStands : NamedStates → Leaf → Meaning → Type 0
LeafStands base (IsDown x) m = (least : List ℕ → List Write) × (next : Option LogRecord) × Rests (watched_by x) base least next m
LeafStands base (IsUp x) m = ServingStands x m
LeafStands base (IsPreparing x) m = ServingStands x.serving m

-- the base of each name is that of a table to which nothing was handed in
abbrev pub AreHandedNothing : NamedStates → Type 0
AreHandedNothing base = (name : List ℕ) → IsFoundation (base name)

-- region and disk still hold what belongs to the leaf, and at each moment all that a crash may leave belongs to its
-- tables
pub record StandsOn (base : NamedStates) (leaf leaf' : Leaf) (m m' : Meaning) : Type 0 where
  pub stands : LeafStands base leaf' m'
  pub told : moments.Told base (watched_by (seated_of leaf)) (watched_by (seated_of leaf')) m m'

-- The steward makes entries with these notes. If the berth tells its contents and the tables are founded, region and
-- disk still hold what belongs to the leaf.
pub record Carries (leaf leaf' : Leaf) (notes : List Note) (m m' : Meaning) : Type 0 where
  pub made : Makes m.clock m'.clock (seated_of leaf) notes (seated_of leaf')
  pub stands : (base : NamedStates) → IsTrue m.tells → AreFounded (seated_of leaf) → AreHandedNothing base → LeafStands base leaf m → StandsOn base leaf leaf' m m'

-- ---- meetings

-- The steward's seat v and the callers' seat c met: each has then seen what the other had, in which it had made no
-- entry itself.
pub record Meets (v c v' c' : SeatView) : Type 0 where
  pub steward : SeesAlso v c v'
  pub caller : SeesAlso c v c'
  pub steward_learns : LearnsOthers v v'
  pub caller_learns : LearnsOthers c c'
  pub ids : AreIds c'.seen

-- the same if there is a callers' seat; else the steward's stays
abbrev pub MeetsIf : SeatView → Option SeatView → SeatView → Option SeatView → Type 0
MeetsIf v (Some c) v' (Some c') = Meets v c v' c'
MeetsIf v None v' None = v' ≡ v
MeetsIf v (Some c) v' None = ⊥
MeetsIf v None v' (Some c') = ⊥

-- at each table the steward's seat and the callers', if there is one, met
pub record MeetAll (leaf : Leaf) (callers : List (Option SeatView)) (leaf' : Leaf) (callers' : List (Option SeatView)) (m : Meaning) : Type 0 where
  pub seats : List SeatView
  pub leaf_is : leaf' ≡ with_seats leaf seats
  pub each : (place : ℕ) (v v' : SeatView) (c c' : Option SeatView)
      → slice_get (seated_of leaf).seats place ≡ Some v → slice_get callers place ≡ Some c
      → slice_get seats place ≡ Some v' → slice_get callers' place ≡ Some c'
      → MeetsIf v c v' c'
  pub count : (length seats ≡ length (seated_of leaf).seats) × (length callers' ≡ length callers)
  pub stands : (base : NamedStates) → IsTrue m.tells → AreFounded (seated_of leaf) → LeafStands base leaf m → LeafStands base leaf' m
