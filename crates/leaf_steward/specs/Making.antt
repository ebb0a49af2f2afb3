-- The entries of the steward, each with its note.
use Rattle.std.specs.Prelude.{◌≡◌, ℕ, suc, ◌≤◌, List, [], ◌∷◌, ◌++◌, length, slice_get, Some, Option, ⊤}
use Rattle.leaf_model.specs.Content.{Contents}
use Rattle.leaf_history.specs.Calls as call
use Rattle.leaf_history.specs.Replies as reply
use Rattle.leaf_history.specs.History.{contents_held}
use Rattle.table_state.specs.Tables.{Table}
use Rattle.row_records.specs.Records.{LogRecord}
use Rattle.leaf_table.specs.declared.base.TableBase.{TableBase}
use Rattle.leaf_table.specs.Turns.{HasFewColumns, Shared, is_founded, untaken_record}
use Rattle.leaf_table.specs.Calls.{SeatView, Made, base_seen, name_of, state_before, IsFresh, IsWorn}
use Rattle.leaf_words.specs.declared.note.Note.{Note}
use Rattle.leaf_words.specs.declared.note.What.{What}
use Rattle.leaf_words.specs.declared.note.What.TheVariants.{Opened, Took, Flushed, Closed, Handed}
use Rattle.leaf_steward.specs.Seated.{Seated, with_seat}

-- the entry that a note tells
abbrev pub MadeAs : Option TableBase → ℕ → SeatView → What → SeatView → Type 0
MadeAs base clock v (Opened n) w = (contents : Contents) × Made base clock v (call.Open n contents) reply.Noted w
MadeAs base clock v (Took n) w = Made base clock v call.Take (reply.Counted n) w
MadeAs base clock v (Flushed n) w = Made base clock v (call.Flushed n) reply.Noted w
MadeAs base clock v (Closed n) w = Made base clock v call.Shut (reply.Counted n) w
MadeAs base clock v Handed w = Made base clock v call.Done reply.Noted w

-- one entry was made at this clock of the berth, and this is its note
pub record OneEntry (clock : ℕ) (x : Seated) (note : Note) (y : Seated) : Type 0 where
  pub table : Shared
  pub before : SeatView
  pub after : SeatView
  pub at : slice_get x.tables note.table ≡ Some table
  pub was : slice_get x.seats note.table ≡ Some before
  pub number : note.number ≡ length after.seen
  pub made : MadeAs (base_seen table) clock before note.what after
  pub now : y ≡ with_seat x note.table after

-- entries were made one after another, between these clocks of the berth, and these are their notes
pub data Makes : ℕ → ℕ → Seated → List Note → Seated → Type 0 where
  none : (from to : ℕ) (x : Seated) (notes : List Note) (y : Seated) → from ≤ to → notes ≡ [] → y ≡ x → Makes from to x notes y
  more : (from to : ℕ) (x : Seated) (notes : List Note) (y : Seated) (clock : ℕ) (note : Note) (rest : List Note) (between : Seated)
      → from ≤ clock → OneEntry clock x note between → Makes clock to between rest y → notes ≡ note ∷ rest → Makes from to x notes y

-- the notes of the entries that were made are appended to those before
abbrev pub NotesOn : ℕ → ℕ → Seated → List Note → List Note → Seated → Type 0
NotesOn from to x before after y = (made : List Note) × (after ≡ before ++ made) × Makes from to x made y

-- each of `count` tables, from `place` on, has a note with this property
abbrev pub EachNoted : (What → Type 0) → ℕ → ℕ → List Note → Type 0
EachNoted P place count [] = count ≡ 0
EachNoted P place count (note ∷ notes) = (fewer : ℕ) × (count ≡ suc fewer) × (note.table ≡ place) × P note.what × EachNoted P (suc place) fewer notes

abbrev pub IsClosedNote : What → Type 0
IsClosedNote (Opened n) = ⊥
IsClosedNote (Took n) = ⊥
IsClosedNote (Flushed n) = ⊥
IsClosedNote (Closed n) = ⊤
IsClosedNote Handed = ⊥

abbrev pub IsHandedNote : What → Type 0
IsHandedNote (Opened n) = ⊥
IsHandedNote (Took n) = ⊥
IsHandedNote (Flushed n) = ⊥
IsHandedNote (Closed n) = ⊥
IsHandedNote Handed = ⊤

-- each table has a note that it was opened with its number of writes
abbrev pub OpenedNotes : ℕ → List Table → List Note → Type 0
OpenedNotes place [] notes = notes ≡ []
OpenedNotes place (t ∷ ts) [] = ⊥
OpenedNotes place (t ∷ ts) (note ∷ notes) = (note.table ≡ place) × (note.what ≡ Opened t.writes) × OpenedNotes (suc place) ts notes

-- a take: n writes were accepted, and `pending` is the record of those that were not taken
pub record TakesAt (clock : ℕ) (x : Seated) (place number n : ℕ) (pending : Option LogRecord) (y : Seated) : Type 0 where
  pub table : Shared
  pub before : SeatView
  pub after : SeatView
  pub at : slice_get x.tables place ≡ Some table
  pub was : slice_get x.seats place ≡ Some before
  pub fresh : IsFresh before
  pub counted : number ≡ length after.seen
  pub made : Made (base_seen table) clock before call.Take (reply.Counted n) after
  pub record_is : pending ≡ untaken_record (name_of table) (state_before (base_seen table) before made.between)
  pub now : y ≡ with_seat x place after

-- a shut: n writes were accepted, and t is the content, with the record of those that were not taken
pub record ShutsAt (clock : ℕ) (x : Seated) (place number n : ℕ) (t : Table) (y : Seated) : Type 0 where
  pub table : Shared
  pub before : SeatView
  pub after : SeatView
  pub at : slice_get x.tables place ≡ Some table
  pub was : slice_get x.seats place ≡ Some before
  pub counted : number ≡ length after.seen
  pub made : Made (base_seen table) clock before call.Shut (reply.Counted n) after
  pub writes : t.writes ≡ n
  pub contents : t.contents ≡ contents_held (state_before (base_seen table) before made.between)
  pub record_is : t.pending ≡ untaken_record (name_of table) (state_before (base_seen table) before made.between)
  pub columns : HasFewColumns (is_founded (base_seen table)) (state_before (base_seen table) before made.between).spare (state_before (base_seen table) before made.between).writes t
  pub now : y ≡ with_seat x place after

-- the seat at this table is worn
abbrev pub WornAt : Seated → ℕ → Type 0
WornAt x place = (v : SeatView) × (slice_get x.seats place ≡ Some v) × IsWorn v
