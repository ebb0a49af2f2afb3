-- What each part of a step does of a leaf that shuts its tables.
use Rattle.std.specs.Prelude.{◌≡◌, ℕ, true, false, List, [], ◌∷◌, ◌++◌, length, None, Result, Ok, Err, IsTrue, ⊤}
use Rattle.berth_face.specs.Berth.{Meaning, Passes}
use Rattle.berth_face.specs.Causes.{HasCause, Rose}
use Rattle.table_state.specs.Tables.{Table}
use Rattle.leaf_words.specs.declared.note.Note.{Note}
use Rattle.leaf_words.specs.declared.note.What.TheVariants as what
use Rattle.leaf_steward.specs.Seated.{AreFounded}
use Rattle.leaf_steward.specs.Making.{NotesOn}
use Rattle.leaf_machine.specs.declared.preparing.PrepareFault.{PrepareFault}
use Rattle.leaf_machine.specs.declared.preparing.PrepareFault.TheVariants.{DiskFault, NoRoom, NoMemory}
use Rattle.leaf_machine.specs.States.{Serving, Shutting, ServingGoesOn}
use Rattle.leaf_machine.specs.Flushes.{OwedNotes}
use Rattle.leaf_machine.specs.Prepares.{PreparingTreats, PreparingHalts, PreparingStarves}

-- a part of a step: its entries are appended to the notes, and the leaf runs on over its berth
pub record IsPartOfStep (x y : Serving) (before after : List Note) (m m' : Meaning) : Type 0 where
  pub made : NotesOn m.clock m'.clock x.seated before after y.seated
  pub crash : IsTrue m.tells → AreFounded x.seated → ServingGoesOn x y m m'
  pub region : IsTrue m.tells → m'.held.region ≡ m.held.region
  pub time : Passes m m'
  pub reads : m'.disk_reads ≡ m.disk_reads

-- Ok: one more table is treated; Err: the disk fails, or memory runs out
abbrev pub IsNextTreated : {T : Type 0} → Shutting → Shutting → List Note → Result T PrepareFault → Type 0
IsNextTreated x y notes (Ok done) = PreparingTreats x y notes
IsNextTreated x y notes (Err DiskFault) = PreparingHalts x y notes
IsNextTreated x y notes (Err NoRoom) = ⊥
IsNextTreated x y notes (Err NoMemory) = PreparingStarves x y notes

-- DiskFault is answered only if the count of the disk's faults rose
abbrev pub RoseNext : {T : Type 0} → ℕ → ℕ → Result T PrepareFault → Type 0
RoseNext before now (Ok done) = ⊤
RoseNext before now (Err DiskFault) = Rose before now
RoseNext before now (Err NoRoom) = ⊤
RoseNext before now (Err NoMemory) = ⊤

-- no table is left to treat, and nothing is owed
pub record IsAllTreated (x : Shutting) : Type 0 where
  pub shut : x.waits ≡ false
  pub all : length x.closed ≡ length x.serving.seated.tables
  pub none : x.serving.owing.log.owed ≡ None

-- the owed record is settled and noted
pub record PreparingSettles (old new : Shutting) (notes : List Note) : Type 0 where
  pub noted : OwedNotes old.serving.owing.log.owed old.serving.owing notes
  pub closed : new.closed ≡ old.closed
  pub shut : new.waits ≡ old.waits
  pub owed : new.serving.owing.log.owed ≡ None

-- the next table is shut, and noted as closed and as flushed; all of it is in the log, and its tail is not sealed
pub record PreparingShuts (old new : Shutting) (notes : List Note) : Type 0 where
  pub closing : ℕ
  pub flushing : ℕ
  pub count : ℕ
  pub content : Table
  pub noted : notes ≡ record { table = length old.closed; number = closing; what = what.Closed count } ∷ record { table = length old.closed; number = flushing; what = what.Flushed count } ∷ []
  pub closed : new.closed ≡ old.closed ++ content ∷ []
  pub shut : new.waits ≡ true
  pub owed : new.serving.owing.log.owed ≡ None

-- Ok: the next table is shut; Err: the disk failed
abbrev pub ShutsNext : {T E : Type 0} → Shutting → Shutting → List Note → Result T E → Type 0
ShutsNext x y notes (Ok done) = PreparingShuts x y notes
ShutsNext x y notes (Err fault) = PreparingHalts x y notes

-- all that shutting the next table does
pub record PreparingGoes {T E : Type 0} (old new : Shutting) (before after : List Note) (m m' : Meaning) (r : Result T E) : Type 0 where
  pub next : (made : List Note) × (after ≡ before ++ made) × ShutsNext old new made r
  pub part : IsPartOfStep old.serving new.serving before after m m'
  pub cause : HasCause m.disk_faults m'.disk_faults r
