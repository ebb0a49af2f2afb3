-- What a leaf runs on to once its log is brought what it was owed.
use Rattle.std.proofs.Common.{◌≡◌, ◌∙◌, ℕ, ◌≤◌, ◌++◌, ◌∷◌, true, false, List, [], length, take, Option, Some, None, refl, sym, ap, subst, arith}
use Rattle.std.specs.Prelude.{slice_get, slice_set, IfSome, IsSome, Result, Ok, Err, OnOk, OnErr, IsOk, IsErr, is_some}
use Rattle.std.proofs.lemmas.Bool.{false≢true}
use Rattle.std.proofs.lemmas.List.{length-take}
use Rattle.leaf_model.specs.declared.writes.Write.{Write}
use Rattle.row_records.specs.Records.{LogRecord, IsRecord}
use Rattle.berth_face.specs.Berth.{Meaning, Passes}
use Rattle.leaf_history.specs.Calls as call
use Rattle.leaf_history.specs.Replies as reply
use Rattle.leaf_history.specs.History.{HistoryState}
use Rattle.disk_backup.specs.State.{LogState}
use Rattle.disk_backup.specs.Settling.{Settled, HaveLog, KeepsLog, with_writes}
use Rattle.leaf_table.specs.Turns.{Shared, is_founded}
use Rattle.leaf_table.specs.Calls.{SeatView, base_seen, state_seen}
use Rattle.crash_moments.specs.Watched.{Watched, now_of}
use Rattle.crash_moments.specs.Told.{SeenMore}
use Rattle.crash_moments.proofs.Telling.{none_more, told_join}
use Rattle.crash_states.specs.Standing.{IsLogged, Runs, StandsNow}
use Rattle.crash_states.specs.Entries.{Enters}
use Rattle.crash_states.proofs.Lefts.{runs_told}
use Rattle.crash_serving.specs.Laws.{Settles, IsFlushed, Owes, settled_log, owing_log}
use Rattle.crash_serving.proofs.Running.{settles, flushes}
use Rattle.leaf_words.specs.declared.note.Note.{Note}
use Rattle.leaf_steward.specs.Seated.{Seated, AreSeated, AreFounded, AtPlace, watched, watched_by}
use Rattle.leaf_steward.specs.Making.{OneEntry}
use Rattle.leaf_steward.proofs.WatchPlaces.{watch_all}
use Rattle.leaf_steward.proofs.WatchEntries.{made_enters, now_seen}
use Rattle.leaf_steward.proofs.Watching.{watch_get, watch_set}
use Rattle.leaf_steward.specs.Owing.{Owing, SettlesOwed, Brings, RunsTo, flushed_note}

-- ---- a log that is owed nothing, and the note of the table

-- the seat knows that at least so many writes were taken of the table
abbrev pub TookAtLeast : ℕ → Shared → SeatView → Type 0
TookAtLeast n t v = n ≤ (state_seen (base_seen t) v).taken

-- of a log that is owed nothing, all that was taken of a table is in it
all_logged : (ws : List Watched) (owner : ℕ) (log : LogState) (writes : List ℕ → List Write) (m : Meaning) (place : ℕ) (w : Watched)
    → Runs ws owner log writes m → log.owed ≡ None → slice_get ws place ≡ Some w → length (writes w.name) ≡ (now_of w).taken
all_logged ws owner log writes m place w runs none at =
    let s : HistoryState = now_of w in
    let logged : IsLogged (writes w.name) (with_writes log.owed writes w.name) s = runs.each place w at in
    let same : with_writes log.owed writes w.name ≡ writes w.name = ap (λ (owed : Option LogRecord). with_writes owed writes w.name) none in
    let front : length (take s.taken s.writes) ≡ length (writes w.name) = ap (λ (l : List Write). length l) (logged.front ∙ same) in
    let long : length (take s.taken s.writes) ≡ s.taken = length-take s.taken s.writes ∙ omega (arith, logged.enough) in
    sym front ∙ long

module _ (x y : Seated) (o : Owing) (number : ℕ) (writes : List ℕ → List Write) (m : Meaning) (seated : AreSeated x) (founded : AreFounded x) (none : o.log.owed ≡ None)
    (entry : OneEntry m.clock x (flushed_note o number) y) (took : AtPlace (TookAtLeast o.count) x o.owner) (runs : Runs (watched_by x) o.owner o.log writes m) where
  abbrev was : Watched
  was = watched entry.table entry.before

  abbrev now : Watched
  now = watched entry.table entry.after

  base_founded : is_founded (base_seen entry.table) ≡ true
  base_founded = watch_all (λ (t : Shared). is_founded (base_seen t) ≡ true) x.tables o.owner entry.table founded entry.at

  was_at : slice_get (watched_by x) o.owner ≡ Some was
  was_at = watch_get x o.owner entry.table entry.before entry.at entry.was

  now_set : watched_by y ≡ slice_set (watched_by x) o.owner now
  now_set = ap (λ (s : Seated). watched_by s) entry.now ∙ watch_set x o.owner entry.table entry.after entry.at

  enters : Enters m.clock (call.Flushed o.count) reply.Noted was now
  enters = (made_enters entry.table entry.before entry.after m.clock (call.Flushed o.count) reply.Noted base_founded (seated.each o.owner entry.table entry.before entry.at entry.was) entry.made).0

  few : o.count ≤ length (writes was.name)
  few =
      let known : o.count ≤ (now_of was).taken = subst (λ (s : HistoryState). o.count ≤ s.taken) (sym (now_seen entry.table entry.before base_founded)) (took entry.table entry.before entry.at entry.was) in
      omega (arith, known, all_logged (watched_by x) o.owner o.log writes m o.owner was runs none was_at)

  flushed : IsFlushed (watched_by x) o.owner o.owner now o.log writes m
  flushed = flushes (watched_by x) o.owner o.owner o.count was now o.log writes m runs was_at few enters

  -- the leaf runs on when the table is noted as flushed
  pub noted : RunsTo x y o m m
  noted =
      let later : Runs (watched_by y) o.owner o.log writes m = subst (λ (ws : List Watched). Runs ws o.owner o.log writes m) (sym now_set) flushed.runs in
      let more : SeenMore m.clock m.clock (watched_by x) (watched_by y) = subst (λ (ws : List Watched). SeenMore m.clock m.clock (watched_by x) ws) (sym now_set) flushed.more in
      record {
        later = writes;
        runs = later;
        told = λ others. runs_told (watched_by x) (watched_by y) others o.owner o.log writes m later more;
      }

-- nothing is owed and no entry is made
pub stays : (x : Seated) (o : Owing) (writes : List ℕ → List Write) (m : Meaning) → Runs (watched_by x) o.owner o.log writes m → RunsTo x x o m m
stays x o writes m runs = record {
  later = writes;
  runs = runs;
  told = λ others. runs_told (watched_by x) (watched_by x) others o.owner o.log writes m runs (none_more m.clock m.clock (watched_by x));
}

-- ---- what is owed is settled

-- what the log says of its settling
pub record HasSettled {T E : Type 0} (log log' : LogState) (result : Result T E) (a b : Meaning) : Type 0 where
  pub passes : Passes a b
  pub stands : StandsNow b
  pub settled : Settled log log' result a b
  pub keeps : (writes : List ℕ → List Write) → HaveLog log writes a → KeepsLog log log' writes result a b
  pub done : OnOk result (settled_log log log')
  pub kept : OnErr result (owing_log log log')

did_settle : {T E : Type 0} (x : Seated) (o : Owing) (log' : LogState) (writes : List ℕ → List Write) (result : Result T E) (a b : Meaning)
    → HasSettled o.log log' result a b → Runs (watched_by x) o.owner o.log writes a → Settles (watched_by x) o.owner o.log log' writes result a b
did_settle x o log' writes result a b has runs =
    settles (watched_by x) o.owner o.log log' writes result a b runs has.passes has.stands has.settled (has.keeps writes runs.logs) has.done has.kept

-- the log has become another
abbrev pub with_log : Owing → LogState → Owing
with_log o log = record { log = log; owner = o.owner; count = o.count }

-- the disk failed: the leaf runs on as it is
pub failed_runs : {T E : Type 0} (x : Seated) (o : Owing) (log' : LogState) (writes : List ℕ → List Write) (e : E) (a b : Meaning)
    → HasSettled {T = T} o.log log' (Err e) a b → Runs (watched_by x) o.owner o.log writes a → RunsTo x x (with_log o log') a b
failed_runs {T} {E} x o log' writes e a b has runs =
    let did : Settles {T = T} (watched_by x) o.owner o.log log' writes (Err e) a b = did_settle x o log' writes (Err e) a b has runs in
    record { later = writes; runs = did.err; told = did.told }

-- it is on the disk, and the leaf runs on when the table is noted as flushed
pub settled_runs : {T E : Type 0} (x y : Seated) (o : Owing) (log' : LogState) (writes : List ℕ → List Write) (v : T) (a b : Meaning)
    → HasSettled {T = T} {E = E} o.log log' (Ok v) a b → Runs (watched_by x) o.owner o.log writes a
    → ((more : List ℕ → List Write) → Runs (watched_by x) o.owner log' more b → RunsTo x y (with_log o log') b b) → RunsTo x y (with_log o log') a b
settled_runs {T} {E} x y o log' writes v a b has runs noting =
    let did : Settles {T = T} {E = E} (watched_by x) o.owner o.log log' writes (Ok v) a b = did_settle x o log' writes (Ok v) a b has runs in
    let next : RunsTo x y (with_log o log') b b = noting (with_writes o.log.owed writes) did.ok in
    record {
      later = next.later;
      runs = next.runs;
      told = λ others. told_join others (watched_by x) (watched_by x) (watched_by y) a b b (did.told others) (next.told others);
    }

pub failed_settles : {T E : Type 0} (clock : ℕ) (x : Seated) (o : Owing) (log' : LogState) (notes : List Note) (result : Result T E)
    → IsSome o.log.owed → IsErr result → owing_log o.log log' → SettlesOwed clock x o notes result x (with_log o log') notes
failed_settles {T} {E} clock x o log' notes result some failed owing = by o.log.owed refl some
  where
    by : (owed : Option LogRecord) → o.log.owed ≡ owed → IsSome owed → SettlesOwed clock x o notes result x (with_log o log') notes
    by None is some = absurd cc
    by (Some r) is some = SettlesOwed.failed r is failed refl refl owing refl refl

pub done_settles : {T E : Type 0} (clock : ℕ) (x y : Seated) (o : Owing) (log' : LogState) (before after : List Note) (result : Result T E) (number : ℕ)
    → IsSome o.log.owed → IsOk result → settled_log o.log log' → OneEntry clock x (flushed_note o number) y → after ≡ before ++ flushed_note o number ∷ []
    → SettlesOwed clock x o before result y (with_log o log') after
done_settles {T} {E} clock x y o log' before after result number some ok settled entry noted = by o.log.owed refl some
  where
    by : (owed : Option LogRecord) → o.log.owed ≡ owed → IsSome owed → SettlesOwed clock x o before result y (with_log o log') after
    by None is some = absurd cc
    by (Some r) is some = SettlesOwed.done r number is ok entry noted settled

-- ---- what is offered

-- the log with this record, and the table of which it is
abbrev pub offered : Owing → ℕ → ℕ → Option LogRecord → Owing
offered o place writes pending = record { log = record { end = o.log.end; owed = pending; laid = false }; owner = place; count = writes }

pub offered_owes : (o : Owing) (place writes : ℕ) (pending : Option LogRecord) → IfSome pending IsRecord → Owes pending o.log (offered o place writes pending).log
offered_owes o place writes pending whole = record { offered = refl; same_end = refl; not_laid = λ some. refl; whole = whole }

pub none_pending : (pending : Option LogRecord) → is_some pending ≡ false → pending ≡ None
none_pending None none = refl
none_pending (Some r) none = absurd cc

-- nothing was pending: the log stays as it is
pub nothing_owes : (log : LogState) → log.owed ≡ None → Owes None log log
nothing_owes log none = record { offered = none; same_end = refl; not_laid = λ some. absurd (false≢true some); whole = tt }

-- what was offered is settled, and so it is brought
pub settled_brings : {T E : Type 0} (clock : ℕ) (x y : Seated) (o o' : Owing) (place writes : ℕ) (pending : Option LogRecord) (before after : List Note) (result : Result T E) → IsSome pending
    → SettlesOwed clock x (offered o place writes pending) before result y o' after → Brings clock x o place writes pending before result y o' after
settled_brings clock x y o o' place writes None before after result some settling = absurd cc
settled_brings clock x y o o' place writes (Some p) before after result some (SettlesOwed.nothing none ok same kept quiet) = absurd cc
settled_brings clock x y o o' place writes (Some p) before after result some (SettlesOwed.done r number owed ok entry told settled) = Brings.done number ok entry told settled.0
settled_brings clock x y o o' place writes (Some p) before after result some (SettlesOwed.failed r owed err same quiet owing owner count) = Brings.failed r owed err same quiet (owing.0 ∙ owed) owner count
