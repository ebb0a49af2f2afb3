-- A table is taken, or shut: its writes up to now are in the log, or are owed to it.
use Rattle.std.proofs.Common.{◌≡◌, ◌∙◌, ℕ, ◌-◌, Bool, false, List, [], ◌∷◌, ◌++◌, length, drop, Option, Some, None, refl, sym, ap, subst, arith}
use Rattle.std.specs.Prelude.{slice_get, slice_set, bytes_eq, IfSome, IsSome}
use Rattle.std.proofs.lemmas.Bool.{cond-true, cond-false}
use Rattle.std.proofs.lemmas.Slice.Eq.{bytes_eq-Decides}
use Rattle.std.proofs.lemmas.List.{append-nil, take_all, take-append-drop}
use Rattle.leaf_model.specs.declared.writes.Write.{Write}
use Rattle.row_records.specs.Records.{LogRecord, IsRecord}
use Rattle.berth_face.specs.Berth.{Meaning}
use Rattle.leaf_history.specs.Calls.{Call}
use Rattle.leaf_history.specs.Calls as call
use Rattle.leaf_history.specs.Replies as reply
use Rattle.leaf_history.specs.History.{HistoryState, untaken, write_count}
use Rattle.disk_backup.specs.Logs.{ClosedLog}
use Rattle.disk_backup.specs.State.{LogState}
use Rattle.disk_backup.specs.Settling.{HaveLog, HoldsOwing, with_writes}
use Rattle.crash_moments.specs.Watched.{Watched, IsFoundation, is_watched, now_of}
use Rattle.crash_states.specs.Standing.{IsLogged, IsOwned, Runs}
use Rattle.crash_states.specs.Entries.{Enters}
use Rattle.crash_states.proofs.Names.{unlike_at}
use Rattle.crash_states.proofs.Meeting.{learned_logged, met_at, met_names}
use Rattle.crash_serving.specs.Laws.{Owes, TakesIn, record_for, untaken_before}
use Rattle.crash_serving.proofs.Places.{set_at}
use Rattle.crash_serving.proofs.Entering.{entered_more, entered_opened, entered_watched, entry_allowed, entry_is, entry_learns, entry_sound, just_before}

-- ---- the writes of a log with the record of one table

record_here : (name : List ℕ) (more : List Write) (writes : List ℕ → List Write) → with_writes (record_for name more) writes name ≡ writes name ++ more
record_here name [] writes = sym (append-nil (writes name))
record_here name (w ∷ more) writes = cond-true (bytes_eq name name) (writes name ++ w ∷ more) (writes name) ((bytes_eq-Decides name name).1 refl)

record_elsewhere : (name other : List ℕ) (more : List Write) (writes : List ℕ → List Write) → bytes_eq other name ≡ false → with_writes (record_for name more) writes other ≡ writes other
record_elsewhere name other [] writes differ = refl
record_elsewhere name other (w ∷ more) writes differ = cond-false (bytes_eq other name) (writes other ++ w ∷ more) (writes other) differ

record_owned : (ws : List Watched) (place : ℕ) (w : Watched) (name : List ℕ) (more : List Write) → slice_get ws place ≡ Some w → w.name ≡ name → IfSome (record_for name more) (IsOwned ws place)
record_owned ws place w name [] at same = tt
record_owned ws place w name (x ∷ more) at same = (w, at, same)

-- a log that was owed nothing is owed a record of which nothing is laid
owing_whole : (owed : Option LogRecord) (laid : Bool) (end : ℕ) (records : List LogRecord) (disk : List ℕ) → (IsSome owed → laid ≡ false) → IfSome owed IsRecord → ClosedLog records end disk → HoldsOwing owed laid end records disk
owing_whole None laid end records disk not_laid whole closed = closed
owing_whole (Some r) laid end records disk not_laid whole closed = subst (λ (b : Bool). HoldsOwing (Some r) b end records disk) (sym (not_laid refl)) (closed, whole)

-- ---- one table

-- all of its writes are taken
pub record TakesAll (before s : HistoryState) : Type 0 where
  pub writes : s.writes ≡ before.writes
  pub taken : s.taken ≡ write_count before
  pub flushed : s.flushed ≡ before.flushed
  pub handed : s.handed ≡ before.handed

-- what was not taken is in the record
takes_logged : (logged more all : List Write) (before s : HistoryState) → IsFoundation before → IsLogged logged logged before → TakesAll before s → more ≡ untaken before → all ≡ logged ++ more → IsLogged logged all s
takes_logged logged more all before s sound is takes rest whole =
    let none : before.taken - before.handed_in ≡ before.taken = omega (arith, sound.handed_in) in
    let parts : logged ++ more ≡ before.writes =
    ap (λ (l : List Write). logged ++ l) (rest ∙ ap (λ (n : ℕ). drop n before.writes) none) ∙ ap (λ (l : List Write). l ++ drop before.taken before.writes) (sym is.front) ∙ take-append-drop before.taken before.writes in
    let count : s.taken ≡ length s.writes = omega (arith, takes.taken, sound.handed_in, ap length takes.writes) in
    record {
      front = take_all s.taken s.writes (omega (arith, count)) ∙ takes.writes ∙ sym parts ∙ sym whole;
      enough = omega (arith, count);
      flushed = omega (arith, takes.flushed, is.flushed);
      handed = takes.handed ∙ is.handed;
    }

-- ---- a leaf

module _ (ws : List Watched) (place owner n : ℕ) (w w' : Watched) (log log' : LogState) (writes : List ℕ → List Write) (m : Meaning)
    (runs : Runs ws owner log writes m) (none : log.owed ≡ None) (at : slice_get ws place ≡ Some w) {c : Call} (e : Enters m.clock c (reply.Counted n) w w') (owes : Owes (record_for w.name (untaken_before e)) log log') where
  abbrev more : List Write
  more = untaken_before e

  abbrev now : List Watched
  now = slice_set ws place w'

  abbrev owed : List ℕ → List Write
  owed name = with_writes (record_for w.name more) writes name

  owed_is : (name : List ℕ) → with_writes log'.owed writes name ≡ owed name
  owed_is name = ap (λ (o : Option LogRecord). with_writes o writes name) owes.offered

  abbrev before : Watched
  before = just_before e

  sound : IsFoundation (now_of before)
  sound = entry_sound e place ws at runs.watched

  had_each : (other : ℕ) (v : Watched) → slice_get ws other ≡ Some v → IsLogged (writes v.name) (writes v.name) (now_of v)
  had_each other v found = subst (λ (o : Option LogRecord). IsLogged (writes v.name) (with_writes o writes v.name) (now_of v)) none (runs.each other v found)

  here : TakesAll (now_of before) (now_of w') → IsLogged (writes w'.name) (with_writes log'.owed writes w'.name) (now_of w')
  here takes =
      let logged : IsLogged (writes w.name) (writes w.name) (now_of before) = learned_logged w before (entry_learns e) (writes w.name) (writes w.name) (had_each place w at) in
      subst (λ (name : List ℕ). IsLogged (writes name) (with_writes log'.owed writes name) (now_of w')) (sym e.name)
      (takes_logged (writes w.name) more (with_writes log'.owed writes w.name) (now_of before) (now_of w') sound logged takes refl (owed_is w.name ∙ record_here w.name more writes))

  elsewhere : (other : ℕ) (v : Watched) → slice_get ws other ≡ Some v → bytes_eq v.name w.name ≡ false → IsLogged (writes v.name) (with_writes log'.owed writes v.name) (now_of v)
  elsewhere other v found differ =
      let same : with_writes log'.owed writes v.name ≡ writes v.name = owed_is v.name ∙ record_elsewhere w.name v.name more writes differ in
      subst (λ (l : List Write). IsLogged (writes v.name) l (now_of v)) (sym same) (had_each other v found)

  strange : (name : List ℕ) → is_watched now name ≡ false → with_writes log'.owed writes name ≡ []
  strange name not_now =
      let not_then : is_watched ws name ≡ false = sym (met_names place w w' ws at e.name name) ∙ not_now in
      owed_is name ∙ record_elsewhere w.name name more writes (unlike_at name ws place w not_then at) ∙ ap (λ (o : Option LogRecord). with_writes o writes name) (sym none) ∙ runs.others name not_then

  logs : HaveLog log' writes m
  logs p left =
      let had = runs.logs p left in
      let closed : ClosedLog had.0 log.end p.disk = subst (λ (o : Option LogRecord). HoldsOwing o log.laid log.end had.0 p.disk) none had.1 in
      let holds = owing_whole (record_for w.name more) log'.laid log'.end had.0 p.disk owes.not_laid owes.whole (subst (λ (end : ℕ). ClosedLog had.0 end p.disk) (sym owes.same_end) closed) in
      (had.0, subst (λ (o : Option LogRecord). HoldsOwing o log'.laid log'.end had.0 p.disk) (sym owes.offered) holds, had.2)

  pub taking : TakesAll (now_of before) (now_of w') → n ≡ write_count (now_of before) → TakesIn ws place w w' n log' writes m
  taking takes counted =
      let owner_now = met_at place w w' ws at e.name place w at in
      record {
        runs = record {
          watched = entered_watched e place ws at runs.watched;
          opened = entered_opened e place ws at runs.watched runs.opened;
          stands = runs.stands;
          logs = logs;
          closed = runs.closed;
          each = set_at (λ (v : Watched). IsLogged (writes v.name) (with_writes log'.owed writes v.name) (now_of v)) place w w' ws runs.watched.apart at (here takes) elsewhere;
          owned = subst (λ (o : Option LogRecord). IfSome o (IsOwned now place)) (sym owes.offered) (record_owned now place owner_now.0 w.name more owner_now.1 owner_now.2);
          others = strange;
        };
        more = entered_more e place ws at runs.watched;
        taken = takes.taken ∙ sym counted;
        all = counted ∙ omega (arith, sound.handed_in, ap length takes.writes);
      }

module _ (ws : List Watched) (place owner n : ℕ) (w w' : Watched) (log log' : LogState) (writes : List ℕ → List Write) (m : Meaning)
    (runs : Runs ws owner log writes m) (none : log.owed ≡ None) (at : slice_get ws place ≡ Some w) where
  pub taken_in : (e : Enters m.clock call.Take (reply.Counted n) w w') → Owes (record_for w.name (untaken_before e)) log log' → TakesIn ws place w w' n log' writes m
  taken_in e owes =
      let all : TakesAll (now_of (just_before e)) (now_of w') = subst (TakesAll (now_of (just_before e))) (sym (entry_is e)) (record { writes = refl; taken = refl; flushed = refl; handed = refl }) in
      taking ws place owner n w w' log log' writes m runs none at e owes all (entry_allowed e).2

  pub shut_in : (e : Enters m.clock call.Shut (reply.Counted n) w w') → Owes (record_for w.name (untaken_before e)) log log' → TakesIn ws place w w' n log' writes m
  shut_in e owes =
      let all : TakesAll (now_of (just_before e)) (now_of w') = subst (TakesAll (now_of (just_before e))) (sym (entry_is e)) (record { writes = refl; taken = refl; flushed = refl; handed = refl }) in
      taking ws place owner n w w' log log' writes m runs none at e owes all (entry_allowed e).2
