-- What a deed does to one leaf, by its notes.
use Rattle.std.specs.Prelude.{◌≡◌, ◌⊎◌, ℕ, suc, ◌+◌, ◌<◌, ◌≤◌, true, List, [], length, Option, Some, Result, Ok, Err, IsTrue, ⊤}
use Rattle.leaf_model.specs.declared.writes.Write.{Write}
use Rattle.berth_face.specs.Berth.{Meaning, IsClosed, Passes}
use Rattle.berth_face.specs.Causes.{Rose}
use Rattle.leaf_words.specs.declared.ways.Way.TheVariants.{Memory}
use Rattle.leaf_opening.specs.Starts.{IsWayLeft}
use Rattle.crash_moments.specs.Left.{NamedStates}
use Rattle.crash_moments.specs.Told as moments
use Rattle.crash_states.specs.Standing.{Copies}
use Rattle.leaf_words.specs.declared.note.Note.{Note}
use Rattle.leaf_steward.specs.Seated.{Seated, AreFounded, watched_by}
use Rattle.leaf_steward.specs.Making.{Makes, EachNoted, IsClosedNote, IsHandedNote}
use Rattle.leaf_machine.specs.declared.preparing.Prepared.{Prepared}
use Rattle.leaf_machine.specs.declared.preparing.Prepared.TheVariants as prepared
use Rattle.leaf_machine.specs.declared.preparing.PrepareFault.{PrepareFault}
use Rattle.leaf_machine.specs.declared.preparing.PrepareFault.TheVariants.{DiskFault, NoMemory, NoRoom}
use Rattle.leaf_machine.specs.States.{Shutting, Copying}
use Rattle.leaf_machine.specs.Prepares.{AllTreated, IsCopyOf}
use Rattle.printed_lines.specs.declared.line.Ending.{Ending}
use Rattle.printed_lines.specs.declared.line.Ending.TheVariants as ending
use Rattle.transcript.specs.Life.{MayMake, StepsOfDrain}
use Rattle.transcript.specs.Life as life
use Rattle.leaf_moves.specs.Stage as stage
use Rattle.leaf_moves.specs.Stage.{Leaf, IsDown, IsPreparing, LeafStands, Carries}
use Rattle.leaf_moves.specs.Modes.{HasShut, progress_of}
use Rattle.leaf_moves.specs.Steps.{DrainMoves, HasCopyLength, MakesNoted, RegionStopped, SameRegion}
use Rattle.leaf_deeds.specs.declared.drain.Shut.{Shut}
use Rattle.leaf_deeds.specs.declared.drain.Shut.TheVariants as shut
use Rattle.leaf_deeds.specs.Steps.{AreLeft, copy_left}

-- ---- what the ending of a deed tells

-- a fault of region or disk is told only if the count of its faults rose
abbrev pub FaultRose : Ending → Meaning → Meaning → Type 0
FaultRose ending.FaultRegion m m' = Rose m.region_faults m'.region_faults
FaultRose ending.FaultDisk m m' = Rose m.disk_faults m'.disk_faults
FaultRose _ m m' = ⊤

-- ---- drains

-- region and disk hold what belongs to a leaf that copies its tables
abbrev pub CopyingStands : Copying → Meaning → Type 0
CopyingStands c m = (writes : List ℕ → List Write) × Copies (watched_by c.seated) c.drain writes m

-- the steward makes entries with these notes, and the leaf comes to copy its tables
pub record CarriesCopy (x : Shutting) (c : Copying) (notes : List Note) (m m' : Meaning) : Type 0 where
  pub made : Makes m.clock m'.clock x.serving.seated notes c.seated
  pub stands : (base : NamedStates) → IsTrue m.tells → AreFounded x.serving.seated → LeafStands base (IsPreparing x) m
      → CopyingStands c m' × moments.Told base (watched_by x.serving.seated) (watched_by c.seated) m m'

-- a leaf that copied its tables comes to rest, and its disk was not read
pub record CopyRests (c : Copying) (y : Seated) (notes : List Note) (m m' : Meaning) : Type 0 where
  pub made : Makes m.clock m'.clock c.seated notes y
  pub reads : m'.disk_reads ≡ m.disk_reads
  pub stands : (base : NamedStates) → IsTrue m.tells → AreFounded c.seated → stage.AreHandedNothing base → CopyingStands c m
      → LeafStands base (IsDown y) m' × moments.Told base (watched_by c.seated) (watched_by y) m m'

-- tables were treated in `made` steps of the leaf's life, with these notes
pub record Treated (x : Shutting) (made : ℕ) (notes : List Note) (y : Shutting) : Type 0 where
  pub steps : (copy : ℕ) → StepsOfDrain (length x.serving.seated.tables) copy made (life.Shutting (progress_of x)) notes (life.Shutting (progress_of y))
  pub part : MakesNoted x.serving.seated notes y.serving.seated

-- all tables that were left were treated, with these notes, and their copy is planned
pub record IsCopyReady (x : Shutting) (m : Meaning) (stop : Option ℕ) (notes : List Note) (c : Copying) (m' : Meaning) (left : Option ℕ) : Type 0 where
  pub whole : Shutting
  pub made : ℕ
  pub so_far : Treated x made notes whole
  pub left_are : AreLeft stop (suc made) left
  pub all : AllTreated whole
  pub long : HasCopyLength whole.serving.seated (copy_left c)
  pub copy : IsCopyOf whole c
  pub carries : CarriesCopy x c notes m m'
  pub region : SameRegion m m'
  pub reads : m'.disk_reads ≡ m.disk_reads

-- all steps that were allowed are made
pub record IsStopped (x : Shutting) (m : Meaning) (stop : Option ℕ) (notes : List Note) (y : Shutting) (m' : Meaning) : Type 0 where
  pub made : ℕ
  pub all : stop ≡ Some made
  pub so_far : Treated x made notes y
  pub shut : HasShut y
  pub carries : Carries (IsPreparing x) (IsPreparing y) notes m m'
  pub region : SameRegion m m'
  pub reads : m'.disk_reads ≡ m.disk_reads

-- what a drain does to a leaf, with these notes; it does not read the disk
pub record Drains (m m' : Meaning) (leaf : Leaf) (stop : Option ℕ) (notes : List Note) (ends : Ending) (leaf' : Leaf) : Type 0 where
  pub moves : DrainMoves m m' leaf stop notes ends leaf'
  pub carries : Carries leaf leaf' notes m m'
  pub reads : m'.disk_reads ≡ m.disk_reads

-- the end of a loop that shuts the tables, with its notes and the steps that are left: their copy is planned; or no
-- step was left; or the drain has ended
abbrev pub ShutsTables : {B : Type 0} → (B → Meaning) → Shutting → Meaning → Option ℕ → List Note → Shut B → Option ℕ → Type 0
ShutsTables meaning x m stop notes (shut.Ready leaf) left = IsCopyReady x m stop notes leaf.0 (meaning leaf.1) left
ShutsTables meaning x m stop notes (shut.Stopped leaf) left = IsStopped x m stop notes leaf.0 (meaning leaf.1)
ShutsTables meaning x m stop notes (shut.Halted leaf) left = Drains m (meaning leaf.1) (IsPreparing x) stop notes ending.FaultDisk (IsPreparing leaf.0)
ShutsTables meaning x m stop notes (shut.Starved leaf) left = Drains m (meaning leaf.1) (IsPreparing x) stop notes ending.FaultMemory (IsPreparing leaf.0)
ShutsTables meaning x m stop notes (shut.Roomless leaf) left = Drains m (meaning leaf.1) (IsPreparing x) stop notes ending.FaultRoom (IsPreparing leaf.0)

-- the berth of the leaf that is left
abbrev pub berth_left : {B : Type 0} → Shut B → B
berth_left (shut.Ready leaf) = leaf.1
berth_left (shut.Stopped leaf) = leaf.1
berth_left (shut.Halted leaf) = leaf.1
berth_left (shut.Starved leaf) = leaf.1
berth_left (shut.Roomless leaf) = leaf.1

-- a fault of the disk is told only if the count of its faults rose
abbrev pub RoseShut : {B : Type 0} → ℕ → ℕ → Shut B → Type 0
RoseShut before now (shut.Halted leaf) = Rose before now
RoseShut before now _ = ⊤

-- the leaf that shuts on after a step, or else how the loop ends
abbrev pub end_of : {B : Type 0} → Result (Prepared B) ((Shutting × B) × PrepareFault) → Result (Shutting × B) (Shut B)
end_of (Ok (prepared.More leaf)) = Ok leaf
end_of (Ok (prepared.Ready leaf)) = Err (shut.Ready leaf)
end_of (Err (leaf, DiskFault)) = Err (shut.Halted leaf)
end_of (Err (leaf, NoMemory)) = Err (shut.Starved leaf)
end_of (Err (leaf, NoRoom)) = Err (shut.Roomless leaf)

-- all that the loop does
pub record ShutEnds {B : Type 0} (meaning : B → Meaning) (x : Shutting) (m : Meaning) (stop : Option ℕ) (notes : List Note) (s : Shut B) (left : Option ℕ) : Type 0 where
  pub shuts : ShutsTables meaning x m stop notes s left
  pub few : length notes ≤ 51
  pub time : Passes m (meaning (berth_left s))
  pub cause : RoseShut m.disk_faults (meaning (berth_left s)).disk_faults s

-- a copy of `copy` steps has made `made` of them, and not the last
abbrev pub MakesCopies : ℕ → ℕ → Type 0
MakesCopies copy made = 0 < copy → made < copy

-- the region is closed, or just the image that was copied
abbrev pub IsCopied : Copying → Meaning → Type 0
IsCopied c m = IsClosed m.held.region ⊎ (m.held.region ≡ c.drain.image)

-- How a copy ends: each table is handed over, and the region is the image; or the region failed; or all steps that were
-- allowed are made, and none was the last.
pub data CopyEnds (c : Copying) (stop : Option ℕ) (m m' : Meaning) (notes : List Note) (ends : Ending) (y : Seated) : Type 0 where
  done : (made : ℕ)
      → suc made ≡ copy_left c
      → MayMake stop (suc made)
      → EachNoted IsHandedNote 0 (length c.seated.tables) notes
      → (IsTrue m.tells → AreFounded c.seated → CopyingStands c m → IsWayLeft true m'.held.region Memory)
      → (IsTrue m.tells → AreFounded c.seated → CopyingStands c m → IsCopied c m')
      → ends ≡ ending.Done
      → CopyEnds c stop m m' notes ends y
  failed : (made : ℕ)
      → MakesCopies (copy_left c) made
      → MayMake stop (suc made)
      → notes ≡ []
      → y ≡ c.seated
      → (IsTrue m.tells → AreFounded c.seated → CopyingStands c m → IsCopied c m')
      → ends ≡ ending.FaultRegion
      → CopyEnds c stop m m' notes ends y
  stopped : (made : ℕ)
      → MakesCopies (copy_left c) made
      → stop ≡ Some made
      → notes ≡ []
      → y ≡ c.seated
      → (IsTrue m.tells → AreFounded c.seated → CopyingStands c m → RegionStopped (life.Copying made) m m')
      → ends ≡ ending.Stopped
      → CopyEnds c stop m m' notes ends y

-- all that the loop over the steps of a copy does
pub record CopyDone (c : Copying) (stop : Option ℕ) (m m' : Meaning) (notes : List Note) (how : Ending) (y : Seated) : Type 0 where
  pub ends : CopyEnds c stop m m' notes how y
  pub rests : CopyRests c y notes m m'
  pub time : Passes m m'
  pub cause : FaultRose how m m'

-- a leaf that shuts its tables is killed: each open table is closed
pub record ShuttingIsKilled (x : Shutting) (y : Seated) (notes : List Note) (m m' : Meaning) : Type 0 where
  pub count : ℕ
  pub all : length x.closed + count ≡ length x.serving.seated.tables
  pub each : EachNoted IsClosedNote (length x.closed) count notes
  pub carries : Carries (IsPreparing x) (IsDown y) notes m m'
