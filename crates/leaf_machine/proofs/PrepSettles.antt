-- What is owed is settled, or is not.
use Rattle.std.proofs.Common.{◌≡◌, ℕ, suc, ◌<◌, ◌≤◌, Bool, List, [], ◌∷◌, length, Option, Some, None, refl, sym, ap, subst, ◌∙◌, arith, inl, inr}
use Rattle.std.specs.Prelude.{slice_get, IfSome, IsSome, IsTrue, Result}
use Rattle.std.proofs.lemmas.Bool.{false≢true}
use Rattle.leaf_model.specs.declared.writes.Write.{Write}
use Rattle.row_records.specs.Records.{LogRecord}
use Rattle.berth_face.specs.Berth.{Meaning, Passes}
use Rattle.table_state.specs.Tables.{Table}
use Rattle.leaf_table.specs.Turns.{Shared}
use Rattle.leaf_table.specs.Calls.{SeatView, base_seen, name_of, state_seen}
use Rattle.crash_states.specs.Standing.{Runs}
use Rattle.leaf_words.specs.declared.note.Note.{Note}
use Rattle.leaf_steward.specs.Seated.{Seated, AreFounded, AreSeated, AtPlace, Spares, watched_by}
use Rattle.leaf_steward.specs.Making.{NotesOn, OneEntry}
use Rattle.leaf_steward.specs.Owing.{Owing, IsOwed, RunsTo, SettlesOwed, flushed_note, nothing, done, failed}
use Rattle.leaf_machine.specs.States.{Serving, Shutting, IsShutting, SparesOwed, UpStands}
use Rattle.leaf_machine.specs.PrepParts.{IsPartOfStep}
use Rattle.leaf_machine.proofs.PrepHolds.{Holds, flushed_holds, holds_of}
use Rattle.leaf_machine.proofs.PrepJoins.{goes_to, no_notes, stands_on, tables_on}
use Rattle.leaf_steward.proofs.Keeping.{makes_one}

-- ---- a leaf that is owed nothing, or the record of the last table that was shut

pub none_owed : {A : Type 0} (o : Option LogRecord) → o ≡ None → IsSome o → A
none_owed o none some = absurd (false≢true (subst (λ (p : Option LogRecord). IsSome p) none some))

pub if_none : (o : Option LogRecord) (P : LogRecord → Type 0) → o ≡ None → IfSome o P
if_none o P none = subst (λ (p : Option LogRecord). IfSome p P) (sym none) tt

pub quiet_is : (closed : List Table) (shut : Bool) (y : Seated) (o : Owing) (m : Meaning) → Holds closed y → o.log.owed ≡ None → (IsTrue shut → 0 < length closed)
    → UpStands (record { seated = y; owing = o }) m → IsShutting (record { serving = record { seated = y; owing = o }; closed = closed; waits = shut }) m
quiet_is closed shut y o m holds none last stands = record {
  few = holds.few;
  opened = holds.opened;
  closed_are = holds.closed_are;
  contents = holds.contents;
  spares = holds.spares;
  spares_closed = holds.spares_closed;
  spares_owed = λ empty. if_none o.log.owed (λ r. AtPlace (Spares 4) y o.owner) none;
  spares_shut = λ is. if_none o.log.owed (λ r. AtPlace (Spares 2) y o.owner) none;
  owed = if_none o.log.owed (λ r. (o.owner < length y.tables) × AtPlace (λ t v. (o.count ≤ (state_seen (base_seen t) v).taken) × (name_of t ≡ r.name)) y o.owner) none;
  last = last;
  owner = λ is some. none_owed o.log.owed none some;
  owes = λ some. none_owed o.log.owed none some;
  stands = stands;
}

-- ---- what is owed stays owed

-- who owes what
abbrev pub OwesAs : Seated → Option LogRecord → ℕ → ℕ → Type 0
OwesAs x owed owner count = IfSome owed (λ r. (owner < length x.tables) × AtPlace (λ t v. (count ≤ (state_seen (base_seen t) v).taken) × (name_of t ≡ r.name)) x owner)

abbrev pub SparesAs : Seated → Option LogRecord → ℕ → ℕ → Type 0
SparesAs x owed owner n = IfSome owed (λ r. AtPlace (Spares n) x owner)

pub still_spares : (x : Seated) (o o' : Owing) (n : ℕ) → o'.log.owed ≡ o.log.owed → o'.owner ≡ o.owner → SparesOwed x o n → SparesOwed x o' n
still_spares x o o' n owed owner is =
    subst (λ (p : Option LogRecord). SparesAs x p o'.owner n) (sym owed) (subst (λ (k : ℕ). SparesAs x o.log.owed k n) (sym owner) is)

pub still_owed : (x : Seated) (o o' : Owing) → o'.log.owed ≡ o.log.owed → o'.owner ≡ o.owner → o'.count ≡ o.count → IsOwed x o → IsOwed x o'
still_owed x o o' owed owner count is =
    subst (λ (p : Option LogRecord). OwesAs x p o'.owner o'.count) (sym owed)
    (subst (λ (k : ℕ). OwesAs x o.log.owed k o'.count) (sym owner) (subst (λ (k : ℕ). OwesAs x o.log.owed o.owner k) (sym count) is))

still_owes : (x : Shutting) (m m' : Meaning) (o : Owing) → IsShutting x m → o.log.owed ≡ x.serving.owing.log.owed → o.owner ≡ x.serving.owing.owner → o.count ≡ x.serving.owing.count
    → UpStands (record { seated = x.serving.seated; owing = o }) m' → IsShutting (record { serving = record { seated = x.serving.seated; owing = o }; closed = x.closed; waits = x.waits }) m'
still_owes x m m' o is owed owner count stands = record {
  few = is.few;
  opened = is.opened;
  closed_are = is.closed_are;
  contents = is.contents;
  spares = is.spares;
  spares_closed = is.spares_closed;
  spares_owed = λ empty. still_spares x.serving.seated x.serving.owing o 4 owed owner (is.spares_owed empty);
  spares_shut = λ shut. still_spares x.serving.seated x.serving.owing o 2 owed owner (is.spares_shut shut);
  owed = still_owed x.serving.seated x.serving.owing o owed owner count is.owed;
  last = is.last;
  owner = λ shut some. ap suc owner ∙ is.owner shut (subst (λ (p : Option LogRecord). IsSome p) owed some);
  owes = λ some. is.owes (subst (λ (p : Option LogRecord). IsSome p) owed some);
  stands = stands;
}

-- ---- settling

module _ (x : Shutting) (m : Meaning) (is : IsShutting x m) (sits : AreSeated x.serving.seated) (r : LogRecord) (owes : x.serving.owing.log.owed ≡ Some r) where
  some : IsSome x.serving.owing.log.owed
  some = subst (λ (o : Option LogRecord). IsSome o) (sym owes) refl

  -- the table whose record is settled has room for the entry: an open one
  owner_open : (t : Shared) (v : SeatView) → slice_get x.serving.seated.tables x.serving.owing.owner ≡ Some t → slice_get x.serving.seated.seats x.serving.owing.owner ≡ Some v
      → length x.closed ≤ x.serving.owing.owner → Spares 4 t v
  owner_open t v at was past = elim (is.owes some) [
    | inl shut ↦ absurd (omega (arith, past, is.owner shut some))
    | inr empty ↦ subst (λ (o : Option LogRecord). SparesAs x.serving.seated o x.serving.owing.owner 4) owes (is.spares_owed empty) t v at was
  ]

  -- and a shut one
  owner_shut : (t : Shared) (v : SeatView) → slice_get x.serving.seated.tables x.serving.owing.owner ≡ Some t → slice_get x.serving.seated.seats x.serving.owing.owner ≡ Some v
      → x.serving.owing.owner < length x.closed → Spares 2 t v
  owner_shut t v at was before = elim (is.owes some) [
    | inl shut ↦ subst (λ (o : Option LogRecord). SparesAs x.serving.seated o x.serving.owing.owner 2) owes (is.spares_shut shut) t v at was
    | inr empty ↦ absurd (omega (arith, before, ap (λ (l : List Table). length l) empty))
  ]

  pub settled_holds : (clock number : ℕ) (y : Seated) → OneEntry clock x.serving.seated (flushed_note x.serving.owing number) y → Holds x.closed y
  settled_holds clock number y one =
      subst (Holds x.closed) (sym one.now)
      (flushed_holds x.closed x.serving.seated (holds_of x m is) sits x.serving.owing.owner one.table one.before one.after clock x.serving.owing.count one.at one.was one.made
      (owner_open one.table one.before one.at one.was) (owner_shut one.table one.before one.at one.was))

module _ (x : Shutting) (m m' : Meaning) (is : IsShutting x m) (sits : AreSeated x.serving.seated) {T E : Type 0} (clock : ℕ) (before : List Note) (result : Result T E)
    (y : Seated) (o : Owing) (after : List Note) where
  pub settled_is : SettlesOwed clock x.serving.seated x.serving.owing before result y o after → UpStands (record { seated = y; owing = o }) m'
      → IsShutting (record { serving = record { seated = y; owing = o }; closed = x.closed; waits = x.waits }) m'
  settled_is (nothing none good same_seats same notes) stands =
      quiet_is x.closed x.waits y o m' (subst (Holds x.closed) (sym same_seats) (holds_of x m is)) (ap (λ (p : Owing). p.log.owed) same ∙ none) is.last stands
  settled_is (done r number owes good one notes settled) stands = quiet_is x.closed x.waits y o m' (settled_holds x m is sits r owes clock number y one) settled.0 is.last stands
  settled_is (failed r owes bad same_seats notes owing owner count) stands =
      subst (λ (s : Seated). UpStands (record { seated = s; owing = o }) m' → IsShutting (record { serving = record { seated = s; owing = o }; closed = x.closed; waits = x.waits }) m') (sym same_seats)
      (still_owes x m m' o is owing.0 owner count) stands

-- the names stay
pub settled_names : {T E : Type 0} (clock : ℕ) (x : Seated) (o : Owing) (before : List Note) (result : Result T E) (y : Seated) (o' : Owing) (after : List Note)
    → SettlesOwed clock x o before result y o' after → y.names ≡ x.names
settled_names clock x o before result y o' after (nothing none good same_seats same notes) = ap (λ (s : Seated). s.names) same_seats
settled_names clock x o before result y o' after (done r number owes good one notes settled) = ap (λ (s : Seated). s.names) one.now
settled_names clock x o before result y o' after (failed r owes bad same_seats notes owing owner count) = ap (λ (s : Seated). s.names) same_seats

-- its entries
settles_notes : {T E : Type 0} (from clock : ℕ) (x : Seated) (o : Owing) (before : List Note) (result : Result T E) (y : Seated) (o' : Owing) (after : List Note)
    → from ≤ clock → SettlesOwed clock x o before result y o' after → NotesOn from clock x before after y
settles_notes from clock x o before result y o' after low (nothing none good same_seats same notes) = no_notes from clock x y before after low notes same_seats
settles_notes from clock x o before result y o' after low (done r number owes good one notes settled) =
    (flushed_note o number ∷ [], notes, makes_one from clock clock x (flushed_note o number) y low (omega arith) one)
settles_notes from clock x o before result y o' after low (failed r owes bad same_seats notes owing owner count) = no_notes from clock x y before after low notes same_seats

module _ (x : Serving) (y : Seated) (o : Owing) (m m' : Meaning) {T E : Type 0} (before after : List Note) (result : Result T E) (settles : SettlesOwed m'.clock x.seated x.owing before result y o after)
    (runs : (writes : List ℕ → List Write) → IsTrue m.tells → AreFounded x.seated → Runs (watched_by x.seated) x.owing.owner x.owing.log writes m → RunsTo x.seated y o m m') (time : Passes m m') where
  made : NotesOn m.clock m'.clock x.seated before after y
  made = settles_notes m.clock m'.clock x.seated x.owing before result y o after time.later settles

  pub settle_part : (IsTrue m.tells → m'.held.region ≡ m.held.region) → m'.disk_reads ≡ m.disk_reads → IsPartOfStep x (record { seated = y; owing = o }) before after m m'
  settle_part region reads = record {
    made = made;
    crash = goes_to x (record { seated = y; owing = o }) m m' runs;
    region = region;
    time = time;
    reads = reads;
  }

  pub settle_stands : UpStands x m → UpStands (record { seated = y; owing = o }) m'
  settle_stands stands =
      stands_on x (record { seated = y; owing = o }) m m' stands (goes_to x (record { seated = y; owing = o }) m m' runs) (tables_on m.clock m'.clock x.seated y before after made) time.tells
