-- The next table is shut, and its record is brought onto the disk, or is owed.
use Rattle.std.proofs.Common.{◌≡◌, ℕ, ◌+◌, ◌<◌, ◌≤◌, Bool, true, false, List, [], ◌∷◌, ◌++◌, length, Option, Some, None, refl, sym, ap, ap₂, subst, ◌∙◌, arith, inl, le_refl, append_assoc}
use Rattle.std.specs.Prelude.{slice_set, IfSome, IsSome, IsTrue, IsOk, IsErr, Result, Ok, Err}
use Rattle.std.proofs.lemmas.Bool.{false≢true}
use Rattle.std.proofs.lemmas.List.{length-append}
use Rattle.std.proofs.lemmas.Option.{slice_get_within}
use Rattle.leaf_model.specs.declared.writes.Write.{Write}
use Rattle.row_records.specs.Records.{LogRecord}
use Rattle.berth_face.specs.Berth.{Meaning, Passes}
use Rattle.leaf_history.specs.Calls as call
use Rattle.leaf_history.specs.Replies as reply
use Rattle.leaf_history.specs.History.{HistoryState, after, contents_held, untaken}
use Rattle.table_state.specs.Tables.{Table, Takes, bare}
use Rattle.leaf_table.specs.Turns.{Shared, is_founded, start_of}
use Rattle.leaf_table.specs.Turns as turns
use Rattle.leaf_table.specs.Calls.{base_seen, name_of, seen_of, state_before, state_seen}
use Rattle.crash_moments.specs.Left.{NamedStates}
use Rattle.crash_moments.specs.Watched.{Watched}
use Rattle.crash_moments.specs.Told.{Told}
use Rattle.crash_states.specs.Standing.{Runs}
use Rattle.crash_states.specs.Entries.{Enters}
use Rattle.crash_serving.specs.Laws as law
use Rattle.crash_serving.proofs.Running.{shuts}
use Rattle.leaf_words.specs.declared.note.Note.{Note}
use Rattle.leaf_words.specs.declared.note.What.TheVariants as what
use Rattle.leaf_steward.specs.Seated.{Seated, AreFounded, AreSeated, AtPlace, Spares, watched, watched_by}
use Rattle.leaf_steward.specs.Making.{Makes, NotesOn, OneEntry, ShutsAt}
use Rattle.leaf_steward.proofs.Keeping.{founded_as, makes_one, makes_seated, makes_tables}
use Rattle.leaf_steward.proofs.Passing.{shut_entry}
use Rattle.leaf_steward.proofs.WatchPlaces.{watch_all}
use Rattle.leaf_steward.proofs.WatchEntries.{made_enters}
use Rattle.leaf_steward.proofs.WatchMakes.{makes_more}
use Rattle.leaf_steward.proofs.Watching.{watch_get, watch_set}
use Rattle.leaf_steward.specs.Owing.{Owing, Brings, HasJustTaken, RunsTo, done, failed}
use Rattle.leaf_machine.specs.States.{Shutting, ServingGoesOn, IsShutting, UpStands}
use Rattle.leaf_machine.specs.Flushes.{OwedNotes}
use Rattle.leaf_machine.specs.Prepares.{PreparingHalts, half}
use Rattle.leaf_machine.specs.PrepParts.{IsPartOfStep, PreparingShuts, ShutsNext}
use Rattle.leaf_machine.proofs.PrepHolds.{Holds, flushed_holds, holds_of, shut_count, shut_holds, shut_named, shut_room}
use Rattle.leaf_machine.proofs.PrepJoins.{makes_two, stands_on, tables_on}
use Rattle.leaf_machine.proofs.UpMaking.{same_record, told_behind}
use Rattle.leaf_machine.proofs.PrepSettles.{quiet_is}

-- nothing was owed, and nothing was noted of it
pub none_noted : (o : Option LogRecord) (by : Owing) → o ≡ None → OwedNotes o by []
none_noted o by none = subst (λ (p : Option LogRecord). OwedNotes p by []) (sym none) refl

module _ (x : Shutting) (m : Meaning) (is : IsShutting x m) (sits : AreSeated x.serving.seated) (none : x.serving.owing.log.owed ≡ None) (place number : ℕ) (next : place ≡ length x.closed)
    (t t' : Table) (pending : Option LogRecord) (y : Seated) (shut : ShutsAt m.clock x.serving.seated place number t.writes t y) (takes : Takes t pending t') where
  abbrev closed : List Table
  closed = x.closed ++ bare t' ∷ []

  abbrev closing : ℕ → Note
  closing k = record { table = k; number = number; what = what.Closed t.writes }

  size : length closed ≡ length x.closed + 1
  size = length-append x.closed (bare t' ∷ [])

  one : OneEntry m.clock x.serving.seated (closing place) y
  one = shut_entry m.clock x.serving.seated place number t.writes t y shut

  makes : Makes m.clock m.clock x.serving.seated (closing place ∷ []) y
  makes = makes_one m.clock m.clock m.clock x.serving.seated (closing place) y (le_refl m.clock) (le_refl m.clock) one

  pub sits_then : AreSeated y
  sits_then = makes_seated m.clock m.clock x.serving.seated (closing place ∷ []) y sits makes

  pub tables_then : y.tables ≡ x.serving.seated.tables
  tables_then = makes_tables m.clock m.clock x.serving.seated (closing place ∷ []) y makes

  contents : t'.contents ≡ contents_held (state_before (base_seen shut.table) shut.before shut.made.between)
  contents = ap (λ (c : Table). c.contents) takes.1 ∙ shut.contents

  pub holds_then : Holds closed y
  holds_then =
      subst (Holds closed) (sym shut.now)
      (shut_holds x.closed x.serving.seated (holds_of x m is) place shut.table shut.before shut.after m.clock t.writes (bare t') next shut.at shut.was shut.made contents (ap (λ (c : Table). c.writes) takes.1))

  pub room_then : AtPlace (Spares 2) y place
  room_then =
      subst (λ (s : Seated). AtPlace (Spares 2) s place) (sym shut.now)
      (shut_room x.closed x.serving.seated (holds_of x m is) place shut.table shut.before shut.after m.clock t.writes (bare t') next shut.at shut.was shut.made contents (ap (λ (c : Table). c.writes) takes.1))

  pub one_spare : AtPlace (Spares 1) y place
  one_spare = λ u s here there. omega (arith, room_then u s here there)

  pub count_then : AtPlace (λ u s. t.writes ≤ (state_seen (base_seen u) s).taken) y place
  count_then =
      subst (λ (z : Seated). AtPlace (λ u s. t.writes ≤ (state_seen (base_seen u) s).taken) z place) (sym shut.now)
      (shut_count x.closed x.serving.seated (holds_of x m is) place shut.table shut.before shut.after m.clock t.writes (bare t') next shut.at shut.was shut.made contents (ap (λ (c : Table). c.writes) takes.1))

  record_is : pending ≡ turns.record_for (name_of shut.table) (untaken (state_before (base_seen shut.table) shut.before shut.made.between))
  record_is = takes.0 ∙ shut.record_is

  pub named_then : IfSome pending (λ (r : LogRecord). AtPlace (λ u s. name_of u ≡ r.name) y place)
  named_then =
      subst (λ (z : Seated). IfSome pending (λ (r : LogRecord). AtPlace (λ u s. name_of u ≡ r.name) z place)) (sym shut.now)
      (shut_named x.serving.seated place shut.table shut.before shut.after pending (state_before (base_seen shut.table) shut.before shut.made.between) shut.at shut.was record_is)

  -- ---- what its record is, where the tables are founded

  module _ (founded : AreFounded x.serving.seated) where
    is_base : is_founded (base_seen shut.table) ≡ true
    is_base = watch_all (λ (s : Shared). is_founded (base_seen s) ≡ true) x.serving.seated.tables place shut.table founded shut.at

    enters : (e : Enters m.clock call.Shut (reply.Counted t.writes) (watched shut.table shut.before) (watched shut.table shut.after)) × (e.between ≡ shut.made.between)
    enters = made_enters shut.table shut.before shut.after m.clock call.Shut (reply.Counted t.writes) is_base (sits.each place shut.table shut.before shut.at shut.was) shut.made

    same_state : after true (start_of (base_seen shut.table)) (seen_of shut.before ++ enters.0.between) ≡ state_before (base_seen shut.table) shut.before shut.made.between
    same_state = ap₂ (λ (b : Bool) (es : _). after b (start_of (base_seen shut.table)) (seen_of shut.before ++ es)) (sym is_base) enters.1

    same_pending : pending ≡ law.record_for (name_of shut.table) (law.untaken_before enters.0)
    same_pending =
        record_is ∙ same_record (name_of shut.table) (untaken (state_before (base_seen shut.table) shut.before shut.made.between))
        ∙ ap (λ (s : HistoryState). law.record_for (name_of shut.table) (untaken s)) (sym same_state)

    has_taken : (writes : List ℕ → List Write) → Runs (watched_by x.serving.seated) x.serving.owing.owner x.serving.owing.log writes m → HasJustTaken y x.serving.owing place pending writes m
    has_taken writes runs log owes =
        let ws : List Watched = watched_by x.serving.seated in
        let takes_in = shuts ws place x.serving.owing.owner t.writes (watched shut.table shut.before) (watched shut.table shut.after) x.serving.owing.log log writes m runs none
        (watch_get x.serving.seated place shut.table shut.before shut.at shut.was) enters.0 (subst (λ (o : Option LogRecord). law.Owes o x.serving.owing.log log) same_pending owes) in
        let now : watched_by y ≡ slice_set ws place (watched shut.table shut.after) =
        ap (λ (s : Seated). watched_by s) shut.now ∙ watch_set x.serving.seated place shut.table shut.after shut.at in
        subst (λ (now_seen : List Watched). Runs now_seen place log writes m) (sym now) takes_in.runs

    -- what is told of the bringing is told of both
    told_both : (others : NamedStates) (z : Seated) (m' : Meaning) → Told others (watched_by y) (watched_by z) m m' → Told others (watched_by x.serving.seated) (watched_by z) m m'
    told_both others z m' told =
        told_behind others (watched_by x.serving.seated) (watched_by y) (watched_by z) m m' (makes_more m.clock m.clock x.serving.seated (closing place ∷ []) y sits founded makes) told

  shut_goes : (z : Seated) (o : Owing) (m' : Meaning)
      → ((taken : List ℕ → List Write) → IsTrue m.tells → AreFounded y → HasJustTaken y x.serving.owing place pending taken m → RunsTo y z o m m')
      → IsTrue m.tells → AreFounded x.serving.seated → ServingGoesOn x.serving (record { seated = z; owing = o }) m m'
  shut_goes z o m' brings tells founded writes runs =
      let on : RunsTo y z o m m' = brings writes tells (founded_as x.serving.seated y tables_then founded) (has_taken founded writes runs) in
      record { later = on.later; runs = on.runs; told = λ others. told_both founded others z m' (on.told others) }

  -- ---- the record is brought onto the disk

  module _ {T E : Type 0} (m' : Meaning) (z : Seated) (o : Owing) (result : Result T E) (old mid new : List Note) (noted : mid ≡ old ++ closing place ∷ [])
      (brings : Brings m'.clock y x.serving.owing place t.writes pending mid result z o new) (time : Passes m m')
      (runs : (taken : List ℕ → List Write) → IsTrue m.tells → AreFounded y → HasJustTaken y x.serving.owing place pending taken m → RunsTo y z o m m') where
    abbrev flushing : ℕ → Note
    flushing n = record { table = place; number = n; what = what.Flushed t.writes }

    all_notes : (n : ℕ) → new ≡ mid ++ flushing n ∷ [] → new ≡ old ++ (closing place ∷ flushing n ∷ [])
    all_notes n notes = notes ∙ ap (λ (l : List Note). l ++ flushing n ∷ []) noted ∙ append_assoc old (closing place ∷ []) (flushing n ∷ [])

    brought_notes : Brings m'.clock y x.serving.owing place t.writes pending mid result z o new → NotesOn m.clock m'.clock x.serving.seated old new z
    brought_notes (done n good then notes owed) =
        (closing place ∷ flushing n ∷ [], all_notes n notes, makes_two m.clock m'.clock x.serving.seated (closing place) y (flushing n) z time.later one then)
    brought_notes (failed r owes bad same notes owed owner count) =
        (closing place ∷ [], notes ∙ noted, subst (λ (s : Seated). Makes m.clock m'.clock x.serving.seated (closing place ∷ []) s) (sym same) (makes_one m.clock m.clock m'.clock x.serving.seated (closing place) y (le_refl m.clock) time.later one))

    pub brought_part : (IsTrue m.tells → m'.held.region ≡ m.held.region) → m'.disk_reads ≡ m.disk_reads → IsPartOfStep x.serving (record { seated = z; owing = o }) old new m m'
    brought_part region reads = record {
      made = brought_notes brings;
      crash = shut_goes z o m' runs;
      region = region;
      time = time;
      reads = reads;
    }

    stands : UpStands (record { seated = z; owing = o }) m'
    stands = stands_on x.serving (record { seated = z; owing = o }) m m' is.stands (shut_goes z o m' runs) (tables_on m.clock m'.clock x.serving.seated z old new (brought_notes brings)) time.tells

    -- the names stay
    names_still : Brings m'.clock y x.serving.owing place t.writes pending mid result z o new → z.names ≡ x.serving.seated.names
    names_still (done n good then notes owed) = ap (λ (s : Seated). s.names) then.now ∙ ap (λ (s : Seated). s.names) shut.now
    names_still (failed r owes bad same notes owed owner count) = ap (λ (s : Seated). s.names) same ∙ ap (λ (s : Seated). s.names) shut.now

    pub brought_names : z.names ≡ x.serving.seated.names
    brought_names = names_still brings

    halted : (r : LogRecord) → pending ≡ Some r → o.log.owed ≡ Some r → o.owner ≡ place → o.count ≡ t.writes → UpStands (record { seated = y; owing = o }) m'
        → IsShutting (record { serving = record { seated = y; owing = o }; closed = closed; waits = true }) m'
    halted r is_pending owed owner count stands_there = record {
      few = holds_then.few;
      opened = holds_then.opened;
      closed_are = holds_then.closed_are;
      contents = holds_then.contents;
      spares = holds_then.spares;
      spares_closed = holds_then.spares_closed;
      spares_owed = λ empty. absurd (omega (arith, size, ap (λ (l : List Table). length l) empty));
      spares_shut = λ last.
          subst (λ (p : Option LogRecord). IfSome p (λ q. AtPlace (Spares 2) y o.owner)) (sym owed) (subst (λ (k : ℕ). AtPlace (Spares 2) y k) (sym owner) room_then);
      owed = subst (λ (p : Option LogRecord). IfSome p (λ q. (o.owner < length y.tables) × AtPlace (λ u s. (o.count ≤ (state_seen (base_seen u) s).taken) × (name_of u ≡ q.name)) y o.owner)) (sym owed)
          (subst (λ (k : ℕ). (k < length y.tables) × AtPlace (λ u s. (o.count ≤ (state_seen (base_seen u) s).taken) × (name_of u ≡ r.name)) y k) (sym owner) (
            omega (arith, slice_get_within x.serving.seated.tables place shut.table shut.at, ap (λ (l : List Shared). length l) tables_then),
            λ u s here there. (omega (arith, count, count_then u s here there), subst (λ (p : Option LogRecord). IfSome p (λ q. AtPlace (λ u s. name_of u ≡ q.name) y place)) is_pending named_then u s here there),
          ));
      last = λ last. omega (arith, size);
      owner = λ last some. omega (arith, owner, next, size);
      owes = λ some. inl refl;
      stands = stands_there;
    }

    brought : Brings m'.clock y x.serving.owing place t.writes pending mid result z o new → IsShutting (record { serving = record { seated = z; owing = o }; closed = closed; waits = true }) m'
    brought (done n good then notes owed) =
        quiet_is closed true z o m'
        (subst (Holds closed) (sym then.now)
        (flushed_holds closed y holds_then sits_then place then.table then.before then.after m'.clock t.writes then.at then.was then.made
        (λ past. absurd (omega (arith, past, size, next))) (λ before. room_then then.table then.before then.at then.was)))
        owed (λ last. omega (arith, size)) stands
    brought (failed r owes bad same notes owed owner count) =
        subst (λ (s : Seated). UpStands (record { seated = s; owing = o }) m' → IsShutting (record { serving = record { seated = s; owing = o }; closed = closed; waits = true }) m') (sym same)
        (halted r owes owed owner count) stands

    pub brought_is : IsShutting (record { serving = record { seated = z; owing = o }; closed = closed; waits = true }) m'
    brought_is = brought brings

    -- ---- what happened

    abbrev there : Shutting
    there = record { serving = record { seated = z; owing = o }; closed = closed; waits = true }

    next_ok : {A B : Type 0} (made : List Note) (r : Result A B) → IsOk r → PreparingShuts x there made → ShutsNext x there made r
    next_ok made (Ok v) good shuts = shuts
    next_ok made (Err e) good shuts = absurd (false≢true good)

    next_err : {A B : Type 0} (made : List Note) (r : Result A B) → IsErr r → PreparingHalts x there made → ShutsNext x there made r
    next_err made (Ok v) bad halts = absurd (false≢true bad)
    next_err made (Err e) bad halts = halts

    brings_next : Brings m'.clock y x.serving.owing place t.writes pending mid result z o new → x.waits ≡ false → (made : List Note) × (new ≡ old ++ made) × ShutsNext x there made result
    brings_next (done n good then notes owed) open_ = (
      closing place ∷ flushing n ∷ [],
      all_notes n notes,
      next_ok (closing place ∷ flushing n ∷ []) result good (
          record {
            closing = number;
            flushing = n;
            count = t.writes;
            content = bare t';
            noted = ap (λ (k : ℕ). closing k ∷ record { table = k; number = n; what = what.Flushed t.writes } ∷ []) next;
            closed = refl;
            shut = refl;
            owed = owed;
          }
          ),
    )
    brings_next (failed r owes bad same notes owed owner count) open_ = (
      closing place ∷ [],
      notes ∙ noted,
      next_err (closing place ∷ []) result bad
          (half [] number t.writes (bare t') open_ (none_noted x.serving.owing.log.owed x.serving.owing none) (ap (λ (k : ℕ). closing k ∷ []) next) refl refl
          (subst (λ (p : Option LogRecord). IsSome p) (sym owed) refl) (owner ∙ next) count),
    )

    pub brought_next : x.waits ≡ false → (made : List Note) × (new ≡ old ++ made) × ShutsNext x there made result
    brought_next open_ = brings_next brings open_
