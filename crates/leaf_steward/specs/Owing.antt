-- The record that a leaf's log is owed, and what it means to bring one to the disk.
use Rattle.std.specs.Prelude.{◌≡◌, ℕ, ◌<◌, ◌≤◌, List, [], ◌∷◌, ◌++◌, length, Option, Some, None, IfSome, Result, IsOk, IsErr}
use Rattle.leaf_model.specs.declared.writes.Write.{Write}
use Rattle.row_records.specs.Records.{LogRecord}
use Rattle.berth_face.specs.Berth.{Meaning}
use Rattle.disk_backup.specs.State.{LogState}
use Rattle.crash_moments.specs.Left.{NamedStates}
use Rattle.crash_moments.specs.Told.{Told}
use Rattle.crash_states.specs.Standing.{Runs}
use Rattle.crash_serving.specs.Laws.{settled_log, owing_log, Owes}
use Rattle.leaf_table.specs.Calls.{base_seen, name_of, state_seen}
use Rattle.leaf_words.specs.declared.note.Note.{Note}
use Rattle.leaf_words.specs.declared.note.What.TheVariants as what
use Rattle.leaf_steward.specs.Seated.{Seated, AtPlace, watched_by}
use Rattle.leaf_steward.specs.Making.{OneEntry}

-- The log, and of the record that it is owed the index of the table and the number of accepted writes when it was
-- taken.
pub record Owing : Type 0 where
  pub log : LogState
  pub owner : ℕ
  pub count : ℕ

-- the owed record is of a table of the leaf, whose seat knows that as many writes were taken
abbrev pub IsOwed : Seated → Owing → Type 0
IsOwed x o = IfSome o.log.owed (λ r. (o.owner < length x.tables) × AtPlace (λ t v. (o.count ≤ (state_seen (base_seen t) v).taken) × (name_of t ≡ r.name)) x o.owner)

-- the note that the owed record was flushed
abbrev pub flushed_note : Owing → ℕ → Note
flushed_note o number = record { table = o.owner; number = number; what = what.Flushed o.count }

-- The owed record is settled: nothing was owed; or the record is on the disk, and its table noted as flushed; or the
-- disk failed, and the record is still owed.
pub data SettlesOwed {T E : Type 0} (clock : ℕ) (x : Seated) (o : Owing) (before : List Note) (result : Result T E) (y : Seated) (o' : Owing) (after : List Note) : Type 0 where
  nothing : o.log.owed ≡ None → IsOk result → y ≡ x → o' ≡ o → after ≡ before → SettlesOwed clock x o before result y o' after
  done : (r : LogRecord) (number : ℕ)
      → o.log.owed ≡ Some r
      → IsOk result
      → OneEntry clock x (flushed_note o number) y
      → after ≡ before ++ flushed_note o number ∷ []
      → settled_log o.log o'.log
      → SettlesOwed clock x o before result y o' after
  failed : (r : LogRecord)
      → o.log.owed ≡ Some r
      → IsErr result
      → y ≡ x
      → after ≡ before
      → owing_log o.log o'.log
      → o'.owner ≡ o.owner
      → o'.count ≡ o.count
      → SettlesOwed clock x o before result y o' after

-- the record that was taken is brought to the disk, and its table noted as flushed; or the disk failed, and it is owed
pub data Brings {T E : Type 0} (clock : ℕ) (x : Seated) (o : Owing) (place writes : ℕ) (pending : Option LogRecord) (before : List Note) (result : Result T E)
    (y : Seated) (o' : Owing) (after : List Note) : Type 0 where
  done : (number : ℕ)
      → IsOk result
      → OneEntry clock x (record { table = place; number = number; what = what.Flushed writes }) y
      → after ≡ before ++ record { table = place; number = number; what = what.Flushed writes } ∷ []
      → o'.log.owed ≡ None
      → Brings clock x o place writes pending before result y o' after
  failed : (r : LogRecord)
      → pending ≡ Some r
      → IsErr result
      → y ≡ x
      → after ≡ before
      → o'.log.owed ≡ Some r
      → o'.owner ≡ place
      → o'.count ≡ writes
      → Brings clock x o place writes pending before result y o' after

-- the leaf still runs, and at each moment all that a crash may leave belongs to its tables
pub record RunsTo (x y : Seated) (o : Owing) (m m' : Meaning) : Type 0 where
  pub later : List ℕ → List Write
  pub runs : Runs (watched_by y) o.owner o.log later m'
  pub told : (others : NamedStates) → Told others (watched_by x) (watched_by y) m m'

-- nothing was owed, and this record was just taken of the table: with whatever log then owes it, the leaf runs
abbrev pub HasJustTaken : Seated → Owing → ℕ → Option LogRecord → (List ℕ → List Write) → Meaning → Type 0
HasJustTaken x o place pending writes m = (log' : LogState) → Owes pending o.log log' → Runs (watched_by x) place log' writes m
