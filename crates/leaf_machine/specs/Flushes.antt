-- What a flush does.
use Rattle.std.specs.Prelude.{◌≡◌, ℕ, List, [], ◌∷◌, ◌++◌, Option, Some, None, IsSome}
use Rattle.row_records.specs.Records.{LogRecord}
use Rattle.leaf_table.specs.Calls.{IsFresh}
use Rattle.leaf_words.specs.declared.note.Note.{Note}
use Rattle.leaf_words.specs.declared.note.What.TheVariants as what
use Rattle.leaf_steward.specs.Seated.{Seated, AtPlace}
use Rattle.leaf_steward.specs.Making.{Makes, WornAt}
use Rattle.leaf_steward.specs.Owing.{Owing, flushed_note}
use Rattle.leaf_machine.specs.declared.up.FlushReply.{FlushReply}
use Rattle.leaf_machine.specs.declared.up.FlushReply.TheVariants.{Flushed, DiskFault, Worn}
use Rattle.leaf_machine.specs.States.{Serving}

-- the note of the record that was owed, once it is settled; none if none was
abbrev pub OwedNotes : Option LogRecord → Owing → List Note → Type 0
OwedNotes None o notes = notes ≡ []
OwedNotes (Some r) o notes = (number : ℕ) × (notes ≡ flushed_note o number ∷ [])

-- after these entries the seat at the table is not worn
abbrev pub FreshBehind : Seated → List Note → ℕ → Type 0
FreshBehind x notes place = (from to : ℕ) × (y : Seated) × Makes from to x notes y × AtPlace (λ t v. IsFresh v) y place

-- A flush of a table. done: the owed record is settled; then the table is taken, and noted as flushed with the same
-- number of writes. half: the disk fails after the take, and the record is owed. worn: the seat is worn, and the table
-- is not taken. stuck: the disk fails while the owed record is settled.
pub data Flushes (table : ℕ) (old new : Serving) (notes : List Note) (reply : FlushReply) : Type 0 where
  done : (first : List Note) (taking flushing n : ℕ)
      → OwedNotes old.owing.log.owed old.owing first
      → FreshBehind old.seated first table
      → notes ≡ first ++ (record { table = table; number = taking; what = what.Took n } ∷ record { table = table; number = flushing; what = what.Flushed n } ∷ [])
      → reply ≡ Flushed
      → new.owing.log.owed ≡ None
      → Flushes table old new notes reply
  half : (first : List Note) (taking n : ℕ)
      → OwedNotes old.owing.log.owed old.owing first
      → FreshBehind old.seated first table
      → notes ≡ first ++ record { table = table; number = taking; what = what.Took n } ∷ []
      → reply ≡ DiskFault
      → IsSome new.owing.log.owed
      → new.owing.owner ≡ table
      → new.owing.count ≡ n
      → Flushes table old new notes reply
  worn : (first : List Note)
      → OwedNotes old.owing.log.owed old.owing first
      → notes ≡ first
      → reply ≡ Worn
      → WornAt new.seated table
      → new.owing.log.owed ≡ None
      → Flushes table old new notes reply
  stuck : notes ≡ []
      → reply ≡ DiskFault
      → IsSome old.owing.log.owed
      → new.seated ≡ old.seated
      → new.owing.log.owed ≡ old.owing.log.owed
      → new.owing.owner ≡ old.owing.owner
      → new.owing.count ≡ old.owing.count
      → Flushes table old new notes reply
