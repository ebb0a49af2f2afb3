-- The log of a leaf is brought what it is owed.
use Rattle.std.proofs.Common.{◌≡◌, ◌⊎◌, inl, inr, ◌∙◌, ℕ, true, List, Option, Ok, Err, sym, ap, subst, arith}
use Rattle.std.specs.Prelude.{IfSome, Result, OnOk, OnErr}
use Rattle.leaf_model.specs.declared.writes.Write.{Write}
use Rattle.row_records.specs.Records.{LogRecord}
use Rattle.berth_face.specs.Berth.{Pair, Meaning, IsClosed, Passes}
use Rattle.berth_face.specs.Moments.{EachNow}
use Rattle.region_layout.specs.Region.{reads}
use Rattle.disk_backup.specs.Logs.{ClosedLog}
use Rattle.disk_backup.specs.State.{LogState}
use Rattle.disk_backup.specs.Settling.{Comes, HasLog, HaveLog, HoldsOwing, HoldsLog, KeepsLog, Settled, WithOrWithout, WithOwed, end_with, with_writes}
use Rattle.crash_moments.specs.Left.{NamedStates, Left, closed}
use Rattle.crash_moments.specs.Watched.{Watched, AreWatched, Between, IsWatched, now_of, tables_then, was_opened}
use Rattle.crash_moments.specs.Told.{Told}
use Rattle.crash_moments.proofs.Telling.{between_wider, none_more, opened_more, then_now}
use Rattle.crash_states.specs.Standing.{IsLogged, IsOwned, Runs, StandsNow}
use Rattle.crash_states.proofs.States.{with_owed, without_owed}
use Rattle.crash_states.proofs.Disks.{short_without, sound_log}
use Rattle.crash_states.proofs.Pairs.{left_by}
use Rattle.crash_states.proofs.Lefts.{runs_front, taken_short}
use Rattle.crash_serving.specs.Laws.{Settles, settled_log, owing_log}
use Rattle.crash_serving.proofs.Places.{each_more}

both_ok : {T E P Q R : Type 0} (result : Result T E) → (P → Q → R) → OnOk result P → OnOk result Q → OnOk result R
both_ok (Ok x) f p q = f p q
both_ok (Err y) f p q = tt

both_err : {T E P Q R : Type 0} (result : Result T E) → (P → Q → R) → OnErr result P → OnErr result Q → OnErr result R
both_err (Ok x) f p q = tt
both_err (Err y) f p q = f p q

-- each pair with that log, with or without what was owed, belongs to the tables as they stand
log_left : (ws : List Watched) (owner : ℕ) (log : LogState) (writes : List ℕ → List Write) (m : Meaning) → Runs ws owner log writes m → (others : NamedStates) (p : Pair) → IsClosed p.region
    → HasLog writes log.end p.disk ⊎ HasLog (with_writes log.owed writes) (end_with log) p.disk → Left reads (tables_then others m.clock ws) p
log_left ws owner log writes m runs others p shut (inl without) =
    let short = taken_short ws owner log writes m runs in
    left_by (tables_then others m.clock ws) writes p (sound_log writes log.end p.disk without (λ name. short_without log.owed writes name (short name)))
    (runs_front ws owner log writes m runs others writes (without_owed log.owed writes)) (λ name serves. shut) (closed shut)
log_left ws owner log writes m runs others p shut (inr whole) =
    let taken : List ℕ → List Write = with_writes log.owed writes in
    left_by (tables_then others m.clock ws) taken p (sound_log taken (end_with log) p.disk whole (taken_short ws owner log writes m runs))
    (runs_front ws owner log writes m runs others taken (with_owed log.owed writes)) (λ name serves. shut) (closed shut)

module _ (ws : List Watched) (owner : ℕ) (log log' : LogState) (writes : List ℕ → List Write) (a b : Meaning) (runs : Runs ws owner log writes a) (passes : Passes a b) where
  -- no entry was made
  later_watched : AreWatched b.clock ws
  later_watched = record {
    each = each_more (IsWatched a.clock) (IsWatched b.clock) (λ w watched. record { base = watched.base; legal = watched.legal; made = between_wider 0 0 a.clock b.clock w.seen (omega arith) passes.later watched.made }) ws runs.watched.each;
    apart = runs.watched.apart;
  }

  later_opened : was_opened b.clock ws ≡ true
  later_opened = opened_more a.clock b.clock a.clock b.clock ws ws passes.later (none_more a.clock b.clock ws) runs.opened

  came_closed : (after : List LogRecord → List ℕ → Type 0) (p : Pair) → Comes log after a p → IsClosed p.region
  came_closed after p came = elim came.region [
    | inl same ↦ subst IsClosed (sym same) (runs.closed came.from came.before)
    | inr shut ↦ shut
  ]

  settling_told : {T E : Type 0} (result : Result T E) → Settled log log' result a b → KeepsLog log log' writes result a b → (others : NamedStates) → Told others ws ws a b
  settling_told result settled keeps others = record {
    passes = passes;
    more = none_more a.clock b.clock ws;
    left = λ t p from to left.
        let shut = came_closed (WithOrWithout log) p (settled.moments.each t p from to left) in
        let same : tables_then others t ws ≡ tables_then others a.clock ws = then_now others a.clock t ws from (each_more (IsWatched a.clock) (λ (w : Watched). Between 0 a.clock w.seen) (λ w watched. watched.made) ws runs.watched.each) in
        subst (λ (tables : NamedStates). Left reads tables p) (sym same) (log_left ws owner log writes a runs others p shut (keeps.moments.each t p from to left));
  }

  module _ (stands : StandsNow b) where
    -- what was owed is in the log
    settled_runs : EachNow (λ p. IsClosed p.region) b → EachNow (λ p. HasLog (with_writes log.owed writes) (end_with log) p.disk) b → settled_log log log' → Runs ws owner log' (with_writes log.owed writes) b
    settled_runs shut have done = record {
      watched = later_watched;
      opened = later_opened;
      stands = stands;
      logs = λ p left.
          let has = have p left in
          (has.0, subst (λ (o : Option LogRecord). HoldsOwing o log'.laid log'.end has.0 p.disk) (sym done.0) (subst (λ (n : ℕ). ClosedLog has.0 n p.disk) (sym done.1) has.1), has.2);
      closed = shut;
      each = λ place w at.
          let had = runs.each place w at in
          let all = with_writes log.owed writes in
          subst (λ (o : Option LogRecord). IsLogged (all w.name) (with_writes o all w.name) (now_of w)) (sym done.0)
          (record { front = had.front; enough = had.enough; flushed = omega (arith, had.flushed, (with_owed log.owed writes w.name).no_less); handed = had.handed });
      owned = subst (λ (o : Option LogRecord). IfSome o (IsOwned ws owner)) (sym done.0) tt;
      others = λ name strange. ap (λ (o : Option LogRecord). with_writes o (with_writes log.owed writes) name) done.0 ∙ runs.others name strange;
    }

    -- it is still owed
    owing_runs : EachNow (λ p. IsClosed p.region) b → HaveLog log' writes b → owing_log log log' → Runs ws owner log' writes b
    owing_runs shut have kept = record {
      watched = later_watched;
      opened = later_opened;
      stands = stands;
      logs = have;
      closed = shut;
      each = λ place w at. subst (λ (o : Option LogRecord). IsLogged (writes w.name) (with_writes o writes w.name) (now_of w)) (sym kept.0) (runs.each place w at);
      owned = subst (λ (o : Option LogRecord). IfSome o (IsOwned ws owner)) (sym kept.0) runs.owned;
      others = λ name strange. ap (λ (o : Option LogRecord). with_writes o writes name) kept.0 ∙ runs.others name strange;
    }

    pub settling : {T E : Type 0} (result : Result T E) → Settled log log' result a b → KeepsLog log log' writes result a b
        → OnOk result (settled_log log log') → OnErr result (owing_log log log') → Settles ws owner log log' writes result a b
    settling result settled keeps done kept = record {
      told = settling_told result settled keeps;
      ok = both_ok result (λ (f : settled_log log log' → Runs ws owner log' (with_writes log.owed writes) b) d. f d)
          (both_ok result (λ (came : EachNow (Comes log (WithOwed log) a) b) have. settled_runs (λ p left. came_closed (WithOwed log) p (came p left)) have) settled.ok keeps.ok) done;
      err = both_err result (λ (f : owing_log log log' → Runs ws owner log' writes b) k. f k)
          (both_err result (λ (came : EachNow (Comes log (HoldsLog log') a) b) have. owing_runs (λ p left. came_closed (HoldsLog log') p (came p left)) have) settled.err keeps.err) kept;
    }
