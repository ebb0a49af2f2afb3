-- At a meeting a seat of the steward learns what callers did, and the leaf stays what it is.
use Rattle.std.proofs.Common.{◌≡◌, ℕ, ◌<◌, ◌≤◌, Bool, true, false, List, [], length, take, Option, Some, None, refl, sym, ap, subst, ◌∙◌, arith}
use Rattle.std.specs.Prelude.{slice_get, slice_set, IfSome}
use Rattle.leaf_model.specs.declared.writes.Write.{Write}
use Rattle.row_records.specs.Records.{LogRecord}
use Rattle.berth_face.specs.Berth.{Meaning}
use Rattle.disk_backup.specs.State.{LogState}
use Rattle.turnstile.specs.Seats.{LearnsOthers, SeesAlso}
use Rattle.leaf_history.specs.History.{LegalFrom}
use Rattle.table_state.specs.Tables.{Table}
use Rattle.leaf_history.specs.Laws.{CallersKeep}
use Rattle.crash_moments.specs.Left.{NamedStates}
use Rattle.leaf_table.specs.Turns.{Shared, is_founded, start_of}
use Rattle.leaf_table.specs.Calls.{SeatView, SeesShut, base_seen, name_of, seen_of, state_seen}
use Rattle.crash_moments.specs.Watched.{Watched}
use Rattle.crash_states.specs.Standing.{Runs, Rests}
use Rattle.crash_states.specs.Entries.{Learns}
use Rattle.crash_states.proofs.Meeting.{met_runs, met_rests}
use Rattle.leaf_steward.specs.Seated.{Seated, AtEach, AtPlace, IsSeated, AreSeated, AreFounded, Spares, watched, watched_by, with_seat}
use Rattle.leaf_steward.specs.Owing.{Owing}
use Rattle.leaf_steward.proofs.Seating.{each_with, some_at}
use Rattle.leaf_steward.proofs.Keeping.{founded_as}
use Rattle.leaf_steward.proofs.WatchPlaces.{watch_all}
use Rattle.leaf_steward.proofs.WatchEntries.{met_kept, met_learns}
use Rattle.leaf_steward.proofs.Watching.{watch_get, watch_set}
use Rattle.leaf_machine.specs.States.{IsShutting, IsUp, Shutting, treated}
use Rattle.leaf_machine.specs.Shut.{AreFewShut, ShutState}
use Rattle.leaf_machine.proofs.PrepEntries.{Stays, kept_stays}
use Rattle.leaf_machine.proofs.PrepHolds.{Holds, holds_of, stays_holds}
use Rattle.leaf_machine.proofs.PrepFew.{stays_few}
use Rattle.leaf_machine.proofs.PrepNames.{IsWith}
use Rattle.leaf_machine.proofs.Beginning.{begun_up, up_begun}

abbrev IsLegalAt : Shared → SeatView → Type 0
IsLegalAt t w = LegalFrom (is_founded (base_seen t)) (start_of (base_seen t)) (seen_of w)

-- it met a caller's
pub record Meets (x y : Seated) (place : ℕ) : Type 0 where
  pub table : Shared
  pub before : SeatView
  pub caller : SeatView
  pub after : SeatView
  pub at : slice_get x.tables place ≡ Some table
  pub was : slice_get x.seats place ≡ Some before
  pub now : y ≡ with_seat x place after
  pub told : SeesAlso before caller after
  pub others : LearnsOthers before after
  pub legal : IsLegalAt table after

pub meets_in : (x y : Seated) (place : ℕ) (u : SeatView) → AreSeated x → place < length x.tables
    → AtPlace (λ t v. (w : SeatView) × (y ≡ with_seat x place w) × SeesAlso v u w × LearnsOthers v w × LegalFrom (is_founded (base_seen t)) (start_of (base_seen t)) (seen_of w)) x place → Meets x y place
meets_in x y place u seated within met =
    let table = some_at x.tables place within in
    let seat = some_at x.seats place (omega (arith, within, seated.count)) in
    let learned = met table.0 seat.0 table.1 seat.1 in
    record {
      table = table.0;
      before = seat.0;
      caller = u;
      after = learned.0;
      at = table.1;
      was = seat.1;
      now = learned.1;
      told = learned.2;
      others = learned.3;
      legal = learned.4;
    }

module _ (x y : Seated) (place : ℕ) (meets : Meets x y place) (seated : AreSeated x) where
  sits : IsSeated meets.table meets.before
  sits = seated.each place meets.table meets.before meets.at meets.was

  keeps : CallersKeep (state_seen (base_seen meets.table) meets.before) (state_seen (base_seen meets.table) meets.after)
  keeps = met_kept meets.table meets.before meets.caller meets.after sits meets.told meets.others meets.legal

  stays : Stays meets.table meets.before meets.after
  stays = kept_stays meets.table meets.before meets.after keeps

  spares : (n : ℕ) → Spares n meets.table meets.before → Spares n meets.table meets.after
  spares n had = omega (arith, had, ap (λ (v : SeatView). v.room) meets.told.view)

  pub met_tables : y.tables ≡ x.tables
  met_tables = ap (λ (s : Seated). s.tables) meets.now

  -- each table stays shut
  pub met_shut : AtEach (λ at t v. SeesShut t v) x → AtEach (λ at t v. SeesShut t v) y
  met_shut each = subst (AtEach (λ at t v. SeesShut t v)) (sym meets.now)
      (each_with (λ at t v. SeesShut t v) (λ at t v. SeesShut t v) x place meets.table meets.after meets.at (λ at t v apart is. is) (keeps.live ∙ each place meets.table meets.before meets.at meets.was) each)

  met_holds : (closed : List Table) → Holds closed x → Holds closed y
  met_holds closed holds = subst (Holds closed) (sym meets.now)
      (stays_holds closed x holds place meets.table meets.before meets.after meets.at meets.was
      (λ past. (stays.opened (holds.opened place meets.table meets.before meets.at meets.was past), spares 3 (holds.spares place meets.table meets.before meets.at meets.was past)))
      (λ before. (stays, spares 1 (holds.spares_closed place meets.table meets.before meets.at meets.was before))))

  -- what the meeting keeps of the table and its seat it keeps in each place
  met_place : (P : Shared → SeatView → Type 0) → (P meets.table meets.before → P meets.table meets.after) → (p : ℕ) → AtPlace P x p → AtPlace P y p
  met_place P step p each = subst (λ (s : Seated). AtPlace P s p) (sym meets.now) (λ t v at sat.
      each_with (λ k u s. k ≡ p → P u s) (λ k u s. k ≡ p → P u s) x place meets.table meets.after meets.at (λ k u s apart is. is)
      (λ e. step (each meets.table meets.before (subst (λ (k : ℕ). slice_get x.tables k ≡ Some meets.table) e meets.at) (subst (λ (k : ℕ). slice_get x.seats k ≡ Some meets.before) e meets.was)))
      (λ k u s here there e. each u s (subst (λ (j : ℕ). slice_get x.tables j ≡ Some u) e here) (subst (λ (j : ℕ). slice_get x.seats j ≡ Some s) e there))
      p t v at sat refl)

  met_owed : (owed : Option LogRecord) (owner count : ℕ) → IfSome owed (λ r. (owner < length x.tables) × AtPlace (λ t v. (count ≤ (state_seen (base_seen t) v).taken) × (name_of t ≡ r.name)) x owner)
      → IfSome owed (λ r. (owner < length y.tables) × AtPlace (λ t v. (count ≤ (state_seen (base_seen t) v).taken) × (name_of t ≡ r.name)) y owner)
  met_owed None owner count is = tt
  met_owed (Some r) owner count is = (
    omega (arith, is.0, ap (λ (ts : List Shared). length ts) met_tables),
    met_place (λ t v. (count ≤ (state_seen (base_seen t) v).taken) × (name_of t ≡ r.name)) (λ had. (omega (arith, had.0, keeps.taken), had.1)) owner is.1,
  )

  met_room : (owed : Option LogRecord) (owner n : ℕ) → IfSome owed (λ r. AtPlace (Spares n) x owner) → IfSome owed (λ r. AtPlace (Spares n) y owner)
  met_room None owner n is = tt
  met_room (Some r) owner n is = met_place (Spares n) (spares n) owner is

  -- ---- what stands, where the tables are founded

  module _ (founded : AreFounded x) where
    learns : Learns (watched meets.table meets.before) (watched meets.table meets.after)
    learns = met_learns meets.table meets.before meets.caller meets.after (watch_all (λ (t : Shared). is_founded (base_seen t) ≡ true) x.tables place meets.table founded meets.at) sits meets.told meets.others meets.legal

    here : slice_get (watched_by x) place ≡ Some (watched meets.table meets.before)
    here = watch_get x place meets.table meets.before meets.at meets.was

    watched_now : watched_by y ≡ slice_set (watched_by x) place (watched meets.table meets.after)
    watched_now = ap (λ (s : Seated). watched_by s) meets.now ∙ watch_set x place meets.table meets.after meets.at

    pub met_run : (owner : ℕ) (log : LogState) (writes : List ℕ → List Write) (m : Meaning) → Runs (watched_by x) owner log writes m → Runs (watched_by y) owner log writes m
    met_run owner log writes m runs = subst (λ (ws : List Watched). Runs ws owner log writes m) (sym watched_now)
        (met_runs place (watched meets.table meets.before) (watched meets.table meets.after) (watched_by x) owner log writes m here learns runs)

    pub met_rest : (others : NamedStates) (least : List ℕ → List Write) (next : Option LogRecord) (m : Meaning) → Rests (watched_by x) others least next m → Rests (watched_by y) others least next m
    met_rest others least next m rests = subst (λ (ws : List Watched). Rests ws others least next m) (sym watched_now)
        (met_rests place (watched meets.table meets.before) (watched meets.table meets.after) (watched_by x) others least next m here learns rests)

  -- ---- a leaf that shuts its tables

  pub met_is : (o : Owing) (closed : List Table) (waits : Bool) (m : Meaning) → IsShutting (record { serving = record { seated = x; owing = o }; closed = closed; waits = waits }) m
      → IsShutting (record { serving = record { seated = y; owing = o }; closed = closed; waits = waits }) m
  met_is o closed waits m is =
      let holds : Holds closed y = met_holds closed (holds_of (record { serving = record { seated = x; owing = o }; closed = closed; waits = waits }) m is) in
      record {
        few = holds.few;
        opened = holds.opened;
        closed_are = holds.closed_are;
        contents = holds.contents;
        spares = holds.spares;
        spares_closed = holds.spares_closed;
        spares_owed = λ empty. met_room o.log.owed o.owner 4 (is.spares_owed empty);
        spares_shut = λ last. met_room o.log.owed o.owner 2 (is.spares_shut last);
        owed = met_owed o.log.owed o.owner o.count is.owed;
        last = is.last;
        owner = is.owner;
        owes = is.owes;
        stands = λ founded.
            let before : AreFounded x = founded_as y x (sym met_tables) founded in
            let old = is.stands before in
            (old.0, (old.1.0, met_run before o.owner o.log old.1.0 m old.1.1));
      }

  pub met_with : (o : Owing) (m : Meaning) (t : ShutState) → IsWith x o m t → IsWith y o m t
  met_with o m t is =
      let was : Shutting = record { serving = record { seated = x; owing = o }; closed = t.closed; waits = t.waits } in (
        met_is o t.closed t.waits m is.0,
        is.1 ∙ ap (take (treated was)) (sym (ap (λ (s : Seated). s.names) meets.now)),
        is.2,
        subst (λ (s : Seated). AreFewShut s t.columns) (sym meets.now)
            (stays_few t.closed t.columns x (holds_of was m is.0) is.2 place meets.table meets.before meets.after meets.at meets.was stays is.3),
      )

  -- ---- a leaf that serves its tables

  pub met_up : (o : Owing) (m : Meaning) → IsUp (record { seated = x; owing = o }) m → IsUp (record { seated = y; owing = o }) m
  met_up o m up = begun_up (record { seated = y; owing = o }) m (met_is o [] false m (up_begun (record { seated = x; owing = o }) m up))
