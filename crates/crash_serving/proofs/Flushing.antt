-- A table is noted as flushed.
use Rattle.std.proofs.Common.{◌≡◌, ◌∙◌, ℕ, ◌≤◌, max, List, length, Some, sym, subst, arith}
use Rattle.std.specs.Prelude.{slice_get}
use Rattle.std.proofs.lemmas.Option.{IfSome_then}
use Rattle.leaf_model.specs.declared.writes.Write.{Write}
use Rattle.berth_face.specs.Berth.{Meaning}
use Rattle.leaf_history.specs.Calls as call
use Rattle.leaf_history.specs.Replies as reply
use Rattle.leaf_history.specs.History.{HistoryState}
use Rattle.disk_backup.specs.State.{LogState}
use Rattle.disk_backup.specs.Settling.{with_writes}
use Rattle.crash_moments.specs.Watched.{Watched, now_of}
use Rattle.crash_states.specs.Standing.{IsLogged, Runs}
use Rattle.crash_states.specs.Entries.{Enters}
use Rattle.crash_serving.specs.Laws.{IsFlushed}
use Rattle.crash_states.proofs.Meeting.{learned_logged, met_at, met_each, met_names}
use Rattle.crash_serving.proofs.Entering.{entered_more, entered_opened, entered_watched, entry_is, entry_learns, just_before}

flushed_logged : (logged taken : List Write) (n : ℕ) (s : HistoryState) → n ≤ length logged → IsLogged logged taken s → IsLogged logged taken (record s { flushed = max s.flushed n })
flushed_logged logged taken n s few is = record { front = is.front; enough = is.enough; flushed = omega (arith, is.flushed, few); handed = is.handed }

pub flushing : (ws : List Watched) (place owner n : ℕ) (w w' : Watched) (log : LogState) (writes : List ℕ → List Write) (m : Meaning)
    → Runs ws owner log writes m → slice_get ws place ≡ Some w → n ≤ length (writes w.name) → Enters m.clock (call.Flushed n) reply.Noted w w'
    → IsFlushed ws place owner w' log writes m
flushing ws place owner n w w' log writes m runs at few e =
    let taken : List ℕ → List Write = with_writes log.owed writes in
    let before : Watched = just_before e in
    let logged = learned_logged w before (entry_learns e) (writes w.name) (taken w.name) (runs.each place w at) in
    let now = flushed_logged (writes w.name) (taken w.name) n (now_of before) few logged in
    let here : IsLogged (writes w'.name) (taken w'.name) (now_of w') =
    subst (λ (name : List ℕ). IsLogged (writes name) (taken name) (now_of w')) (sym e.name) (subst (IsLogged (writes w.name) (taken w.name)) (sym (entry_is e)) now) in
    record {
      runs = record {
        watched = entered_watched e place ws at runs.watched;
        opened = entered_opened e place ws at runs.watched runs.opened;
        stands = runs.stands;
        logs = runs.logs;
        closed = runs.closed;
        each = met_each (λ (v : Watched). IsLogged (writes v.name) (taken v.name) (now_of v)) place w' ws here runs.each;
        owned = IfSome_then log.owed runs.owned (λ r is. let there = met_at place w w' ws at e.name owner is.0 is.1 in (there.0, there.1, there.2 ∙ is.2));
        others = λ name strange. runs.others name (sym (met_names place w w' ws at e.name name) ∙ strange);
      };
      more = entered_more e place ws at runs.watched;
    }
