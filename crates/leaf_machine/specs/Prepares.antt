-- What a step does of a leaf that shuts its tables.
use Rattle.std.specs.Prelude.{◌≡◌, ℕ, ◌<◌, ◌≤◌, ◌^◌, true, false, List, [], ◌∷◌, ◌++◌, length, IsSome, IsTrue, None, Result, Ok, Err, ⊤}
use Rattle.leaf_model.specs.declared.writes.Write.{Write}
use Rattle.berth_face.specs.Berth.{Meaning}
use Rattle.berth_face.specs.Causes.{Rose}
use Rattle.table_state.specs.Tables.{Table}
use Rattle.region_layout.specs.declared.drained.DrainTable.{DrainTable}
use Rattle.region_layout.specs.Region.{IsAdoptable}
use Rattle.region_layout.specs.Drained.{all_columns, has_no_room, images_of}
use Rattle.drain_copy.specs.declared.step.Next.TheVariants as next
use Rattle.drain_copy.specs.declared.step.PlanFault.{PlanFault}
use Rattle.drain_copy.specs.declared.step.PlanFault.TheVariants as plan
use Rattle.crash_states.specs.Standing.{Runs}
use Rattle.leaf_words.specs.declared.note.Note.{Note}
use Rattle.leaf_words.specs.declared.note.What.TheVariants as what
use Rattle.leaf_steward.specs.Seated.{AreFounded, Seated, watched_by}
use Rattle.leaf_machine.specs.declared.preparing.Prepared.{Prepared}
use Rattle.leaf_machine.specs.declared.preparing.Prepared.TheVariants as prepared
use Rattle.leaf_machine.specs.declared.preparing.PrepareFault.{PrepareFault}
use Rattle.leaf_machine.specs.declared.preparing.PrepareFault.TheVariants.{DiskFault, NoRoom, NoMemory}
use Rattle.leaf_machine.specs.States.{Serving, Shutting, Copying, ServingGoesOn, GoesOnCopying, bulk_added, columns_added, columns_seen, treated}
use Rattle.leaf_machine.specs.Flushes.{OwedNotes}
use Rattle.leaf_machine.specs.Shut.{AreTablesOf}

-- a leaf that serves its tables begins to shut them
abbrev pub begins : Serving → Shutting
begins x = record { serving = x; closed = []; waits = false }

-- all tables are treated
abbrev pub AllTreated : Shutting → Type 0
AllTreated x = treated x ≡ length x.serving.seated.tables

-- One more table is treated. whole: the owed record is settled and noted; then the next table is shut, noted as closed,
-- settled and noted as flushed with the same number of writes, and sealed. rest: the table was already shut, and the
-- remaining steps are done.
pub data PreparingTreats (old new : Shutting) (notes : List Note) : Type 0 where
  whole : (first : List Note) (closing flushing n : ℕ) (content : Table)
      → old.waits ≡ false
      → OwedNotes old.serving.owing.log.owed old.serving.owing first
      → notes ≡ first ++ (record { table = length old.closed; number = closing; what = what.Closed n } ∷ record { table = length old.closed; number = flushing; what = what.Flushed n } ∷ [])
      → new.closed ≡ old.closed ++ content ∷ []
      → new.waits ≡ false
      → new.serving.owing.log.owed ≡ None
      → PreparingTreats old new notes
  rest : old.waits ≡ true
      → OwedNotes old.serving.owing.log.owed old.serving.owing notes
      → new.closed ≡ old.closed
      → new.waits ≡ false
      → new.serving.owing.log.owed ≡ None
      → PreparingTreats old new notes

-- The disk fails. half: after the next table was shut; its record is owed. stuck: while the owed record is settled;
-- nothing is noted.
pub data PreparingHalts (old new : Shutting) (notes : List Note) : Type 0 where
  half : (first : List Note) (closing n : ℕ) (content : Table)
      → old.waits ≡ false
      → OwedNotes old.serving.owing.log.owed old.serving.owing first
      → notes ≡ first ++ record { table = length old.closed; number = closing; what = what.Closed n } ∷ []
      → new.closed ≡ old.closed ++ content ∷ []
      → new.waits ≡ true
      → IsSome new.serving.owing.log.owed
      → new.serving.owing.owner ≡ length old.closed
      → new.serving.owing.count ≡ n
      → PreparingHalts old new notes
  stuck : notes ≡ []
      → IsSome old.serving.owing.log.owed
      → new.serving.seated ≡ old.serving.seated
      → new.serving.owing.log.owed ≡ old.serving.owing.log.owed
      → new.serving.owing.owner ≡ old.serving.owing.owner
      → new.serving.owing.count ≡ old.serving.owing.count
      → new.closed ≡ old.closed
      → new.waits ≡ old.waits
      → PreparingHalts old new notes

-- Memory runs out, and nothing is owed. before: no further table is shut. behind: the next table is shut and whole in
-- the log, but not sealed. still: the same for a table that was already shut.
pub data PreparingStarves (old new : Shutting) (notes : List Note) : Type 0 where
  before : old.waits ≡ false
      → OwedNotes old.serving.owing.log.owed old.serving.owing notes
      → new.closed ≡ old.closed
      → new.waits ≡ false
      → new.serving.owing.log.owed ≡ None
      → PreparingStarves old new notes
  behind : (first : List Note) (closing flushing n : ℕ) (content : Table)
      → old.waits ≡ false
      → length old.closed < length old.serving.seated.tables
      → OwedNotes old.serving.owing.log.owed old.serving.owing first
      → notes ≡ first ++ (record { table = length old.closed; number = closing; what = what.Closed n } ∷ record { table = length old.closed; number = flushing; what = what.Flushed n } ∷ [])
      → new.closed ≡ old.closed ++ content ∷ []
      → new.waits ≡ true
      → new.serving.owing.log.owed ≡ None
      → PreparingStarves old new notes
  still : old.waits ≡ true
      → OwedNotes old.serving.owing.log.owed old.serving.owing notes
      → new.closed ≡ old.closed
      → new.waits ≡ true
      → new.serving.owing.log.owed ≡ None
      → PreparingStarves old new notes

-- the refusal of a step for this refusal of the plan
abbrev pub told_of_plan : PlanFault → PrepareFault
told_of_plan plan.NoRoom = NoRoom
told_of_plan plan.NoMemory = NoMemory

-- ---- the copy

-- the tables make no image
abbrev pub HasNoRoom : Shutting → Type 0
HasNoRoom x = (tables : List DrainTable) × AreTablesOf x.serving.seated.names x.closed tables × IsTrue (has_no_room tables)

-- the copy of a leaf whose tables are all treated: its image is one of these tables, and nothing of it is in the region
-- yet; it has at least the columns that the rows need, and of founded tables at most one for each row and each cell
-- that was added, and the spare ones
pub record IsCopyOf (x : Shutting) (c : Copying) : Type 0 where
  pub seated : c.seated ≡ x.serving.seated
  pub tables : List DrainTable
  pub are : AreTablesOf x.serving.seated.names x.closed tables
  pub has_room : has_no_room tables ≡ false
  pub image : IsAdoptable c.drain.image (images_of tables) x.serving.owing.log.end
  pub heap : c.drain.heap ≡ all_columns tables
  pub columns : columns_seen x.serving.seated.tables x.serving.seated.seats ≤ length c.drain.heap
  pub few : AreFounded x.serving.seated → length c.drain.heap ≤ columns_added x.serving.seated.tables x.serving.seated.seats
  pub next : c.drain.next ≡ next.Begin

abbrev pub berth_of_step : {B : Type 0} → Result (Prepared B) ((Shutting × B) × PrepareFault) → B
berth_of_step (Ok (prepared.More leaf)) = leaf.1
berth_of_step (Ok (prepared.Ready leaf)) = leaf.1
berth_of_step (Err x) = x.0.1

abbrev pub seats_of_step : {B : Type 0} → Result (Prepared B) ((Shutting × B) × PrepareFault) → Seated
seats_of_step (Ok (prepared.More leaf)) = leaf.0.serving.seated
seats_of_step (Ok (prepared.Ready leaf)) = leaf.0.seated
seats_of_step (Err x) = x.0.0.serving.seated

-- While a table is left to treat: one is treated, or the disk fails, or memory runs out. Afterwards: the copy is
-- planned, or the tables make no image, or memory runs out.
abbrev pub IsTreatingStep : {B : Type 0} → Shutting → List Note → Result (Prepared B) ((Shutting × B) × PrepareFault) → Type 0
IsTreatingStep x notes (Ok (prepared.More leaf)) = (treated x < length x.serving.seated.tables) × PreparingTreats x leaf.0 notes
IsTreatingStep x notes (Ok (prepared.Ready leaf)) = AllTreated x × (notes ≡ []) × IsCopyOf x leaf.0
IsTreatingStep x notes (Err ((y, b), DiskFault)) = (treated x < length x.serving.seated.tables) × PreparingHalts x y notes
IsTreatingStep x notes (Err ((y, b), NoRoom)) = AllTreated x × HasNoRoom x × (notes ≡ []) × (y ≡ x)
IsTreatingStep x notes (Err ((y, b), NoMemory)) = PreparingStarves x y notes

-- founded tables that make no image had 2^25 rows, cells and writes added to them, or spare columns
abbrev pub PreparingIsCrowded : Seated → Type 0
PreparingIsCrowded x = AreFounded x → 2 ^ 25 ≤ bulk_added x.tables x.seats

abbrev pub CrowdsStep : {B : Type 0} → Shutting → Result (Prepared B) ((Shutting × B) × PrepareFault) → Type 0
CrowdsStep x (Ok step) = ⊤
CrowdsStep x (Err (leaf, DiskFault)) = ⊤
CrowdsStep x (Err (leaf, NoRoom)) = PreparingIsCrowded x.serving.seated
CrowdsStep x (Err (leaf, NoMemory)) = ⊤

abbrev pub StepGoesOn : {B : Type 0} → (B → Meaning) → Shutting → Meaning → Result (Prepared B) ((Shutting × B) × PrepareFault) → Type 0
StepGoesOn meaning x m (Ok (prepared.More leaf)) = ServingGoesOn x.serving leaf.0.serving m (meaning leaf.1)
StepGoesOn meaning x m (Ok (prepared.Ready leaf)) = (writes : List ℕ → List Write) → Runs (watched_by x.serving.seated) x.serving.owing.owner x.serving.owing.log writes m
    → GoesOnCopying x.serving.seated leaf.0 m (meaning leaf.1)
StepGoesOn meaning x m (Err ((y, b), fault)) = ServingGoesOn x.serving y.serving m (meaning b)

-- DiskFault is answered only if the count of the disk's faults rose
abbrev pub RoseStep : {B : Type 0} → ℕ → ℕ → Result (Prepared B) ((Shutting × B) × PrepareFault) → Type 0
RoseStep earlier now (Ok step) = ⊤
RoseStep earlier now (Err (leaf, DiskFault)) = Rose earlier now
RoseStep earlier now (Err (leaf, NoRoom)) = ⊤
RoseStep earlier now (Err (leaf, NoMemory)) = ⊤
