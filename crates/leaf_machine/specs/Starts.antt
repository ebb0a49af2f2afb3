-- What a start finds, which entries it makes, and what it leaves.
use Rattle.std.specs.Prelude.{◌≡◌, ◌≢◌, ℕ, ◌<◌, List, [], length, slice_get, Option, Some, None, Result, Ok, Err, ⊤}
use Rattle.leaf_model.specs.declared.writes.Write.{Write}
use Rattle.row_records.specs.Records.{LogRecord}
use Rattle.berth_face.specs.Berth.{Meaning, Pair}
use Rattle.region_layout.specs.Names.{IsName}
use Rattle.leaf_words.specs.declared.ways.Way.{Way}
use Rattle.leaf_opening.specs.declared.ways.OpenFault.{OpenFault}
use Rattle.leaf_opening.specs.declared.ways.OpenFault.TheVariants as found
use Rattle.leaf_opening.specs.OpenedLeaf.{OpenedLeaf}
use Rattle.leaf_opening.specs.Answers.{GoesToLog, IsAnswer}
use Rattle.leaf_opening.specs.Starts.{StartEnded, IsOpeningRefusal}
use Rattle.leaf_table.specs.Calls.{SeatView, IsFresh}
use Rattle.crash_moments.specs.Left.{NamedStates}
use Rattle.crash_states.specs.Standing.{Runs, Rests}
use Rattle.leaf_words.specs.declared.note.Note.{Note}
use Rattle.leaf_words.specs.declared.note.What.{What}
use Rattle.leaf_words.specs.declared.note.What.TheVariants.{Opened, Took, Flushed, Closed, Handed}
use Rattle.leaf_steward.specs.Seated.{Seated, AtEach, watched_by}
use Rattle.leaf_steward.specs.Making.{EachNoted, OpenedNotes, WornAt}
use Rattle.leaf_machine.specs.declared.faults.StartFault.{StartFault}
use Rattle.leaf_machine.specs.declared.faults.StartFault.TheVariants.{RegionFault, DiskFault, DiskDamaged, Stranger, NoMemory, Worn}
use Rattle.leaf_machine.specs.States.{Serving, SeatsTold}

-- the refusal of a start for this refusal of the opening
abbrev pub told_of : OpenFault → StartFault
told_of found.RegionFault = RegionFault
told_of found.DiskFault = DiskFault
told_of found.DiskDamaged = DiskDamaged
told_of (found.Stranger name) = Stranger name
told_of found.NoMemory = NoMemory

-- the berth that a start gives back
abbrev pub berth_after : {B X Y V W : Type 0} → Result ((X × B) × V) ((Y × B) × W) → B
berth_after (Ok x) = x.0.1
berth_after (Err x) = x.0.1

-- the seats that a start gives back
abbrev pub seats_after : {B V W : Type 0} → Result ((Serving × B) × V) ((Seated × B) × W) → Seated
seats_after (Ok x) = x.0.0.seated
seats_after (Err x) = x.0.0

-- the first table whose seat has seen 2^62 entries
pub record IsFirstWorn (x : Seated) (table : ℕ) : Type 0 where
  pub worn : WornAt x table
  pub first : (place : ℕ) (v : SeatView) → place < table → slice_get x.seats place ≡ Some v → IsFresh v

abbrev pub IsOpenedNote : What → Type 0
IsOpenedNote (Opened n) = ⊤
IsOpenedNote (Took n) = ⊥
IsOpenedNote (Flushed n) = ⊥
IsOpenedNote (Closed n) = ⊥
IsOpenedNote Handed = ⊥

-- A start opens each table with what it finds. Or it is refused and makes no entry: for a worn seat before anything is
-- touched, or for what it finds.
abbrev pub IsStart : {B : Type 0} → Seated → B → List Note → Result ((Serving × B) × Way) ((Seated × B) × StartFault) → Type 0
IsStart x berth notes (Ok ((up, b), way)) = AtEach (λ place t v. IsFresh v) x × (up.seated.names ≡ x.names) × (up.seated.tables ≡ x.tables) × (up.owing.log.owed ≡ None)
    × EachNoted IsOpenedNote 0 (length x.tables) notes
IsStart x berth notes (Err ((y, b), Worn table)) = IsFirstWorn x table × (y ≡ x) × (b ≡ berth) × (notes ≡ [])
IsStart x berth notes (Err ((y, b), Stranger name)) = AtEach (λ place t v. IsFresh v) x × (y ≡ x) × (notes ≡ []) × IsName name
IsStart x berth notes (Err ((y, b), fault)) = AtEach (λ place t v. IsFresh v) x × (y ≡ x) × (notes ≡ [])

-- what was found, over a berth that tells its contents
pub record CameUp (names : List (List ℕ)) (old new : Meaning) (notes : List Note) (up : Serving) (way : Way) : Type 0 where
  pub served : OpenedLeaf
  pub started : StartEnded names old new served way
  pub log : up.owing.log ≡ served.log
  pub noted : OpenedNotes 0 served.tables notes

abbrev pub IsStartRefused : List (List ℕ) → Meaning → Meaning → StartFault → Type 0
IsStartRefused names old new (Worn table) = ⊤
IsStartRefused names old new fault = (f : OpenFault) × (fault ≡ told_of f) × IsOpeningRefusal names old new f

-- a refusal that the bytes decide is the one that they decide; DiskFault is answered only if the region gave no tables
abbrev pub IsExactRefusal : List (List ℕ) → Pair → StartFault → Type 0
IsExactRefusal names held DiskFault = GoesToLog names held.region
IsExactRefusal names held DiskDamaged = IsAnswer names held.region held.disk (Err found.DiskDamaged)
IsExactRefusal names held (Stranger name) = IsAnswer names held.region held.disk (Err (found.Stranger name))
IsExactRefusal names held _ = ⊤

-- a start answers what the bytes decide, unless a seat is worn, the berth fails or memory runs out
abbrev pub IsExactStart : {B : Type 0} → List (List ℕ) → Pair → Result ((Serving × B) × Way) ((Seated × B) × StartFault) → Type 0
IsExactStart names held (Ok x) = IsAnswer names held.region held.disk (Ok x.1)
IsExactStart names held (Err x) = IsExactRefusal names held x.1

-- the leaf after a start: it runs, or it rests on
abbrev pub StartGoesOn : {B : Type 0} → (B → Meaning) → Seated → Meaning → NamedStates → (List ℕ → List Write) → Option LogRecord
    → Result ((Serving × B) × Way) ((Seated × B) × StartFault) → Type 0
StartGoesOn meaning x m others least next (Ok ((up, b), way)) =
    ((writes : List ℕ → List Write) × Runs (watched_by up.seated) up.owing.owner up.owing.log writes (meaning b)) × SeatsTold others x up.seated m (meaning b)
StartGoesOn meaning x m others least next (Err ((y, b), fault)) = Rests (watched_by y) others least next (meaning b) × SeatsTold others x y m (meaning b) × (fault ≢ DiskDamaged)
