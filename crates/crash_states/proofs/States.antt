-- Where the tables of a leaf stand now and stood at its berth's present moment, and which lists are fronts of their
-- writes.
use Rattle.std.proofs.Common.{◌≡◌, ℕ, ◌≤◌, false, List, [], ◌++◌, length, take, drop, Option, Some, None, Bool, true, cond, refl, sym, ap, subst, ◌∙◌, arith, append-nil}
use Rattle.std.specs.Prelude.{bytes_eq}
use Rattle.std.proofs.lemmas.List.{length-append, length-take, take-append-drop, take-append-le, take-take, take_all, take_at}
use Rattle.leaf_model.specs.declared.writes.Write.{Write}
use Rattle.row_records.specs.Records.{LogRecord}
use Rattle.leaf_history.specs.History.{Entry, HistoryState, LegalFrom, no_base}
use Rattle.leaf_history.specs.Laws.{CallersKeep}
use Rattle.leaf_history.proofs.Histories.{LegalFrom-front}
use Rattle.disk_backup.specs.Settling.{with_writes}
use Rattle.disk_backup.specs.SoundLogs.{HasFewRows}
use Rattle.disk_backup.proofs.SoundLogs.{shorter, no_writes}
use Rattle.crash_moments.specs.Watched.{Watched, IsFoundation, IsWatched, cut, now_of, state_then}
use Rattle.crash_moments.proofs.Cuts.{cut_split}
use Rattle.crash_moments.proofs.Histories.{cut_keeps, stays_sound}
use Rattle.crash_states.specs.Standing.{IsLogged, IsKept, IsTreated}

-- ---- one table

pub now_sound : (clock : ℕ) (w : Watched) → IsWatched clock w → IsFoundation (now_of w)
now_sound clock w watched = stays_sound w.base w.seen watched.base watched.legal

pub then_sound : (clock : ℕ) (w : Watched) → IsWatched clock w → IsFoundation (state_then clock w)
then_sound clock w watched =
    let split = cut_split clock w.seen in
    stays_sound w.base (cut clock w.seen) watched.base (LegalFrom-front true w.base (cut clock w.seen) split.0 (subst (λ (es : List Entry). LegalFrom true w.base es) split.1 watched.legal))

-- a shut table stood at the present moment where it stands now
pub shut_then : (clock : ℕ) (w : Watched) → IsWatched clock w → (now_of w).live ≡ false → state_then clock w ≡ now_of w
shut_then clock w watched shut =
    let keeps : CallersKeep (state_then clock w) (now_of w) = cut_keeps clock w watched in
    sym (keeps.shut (sym keeps.live ∙ shut))

-- ---- fronts

-- these are the first of a table's writes, with each flushed one
pub record IsFrontOf (held : List Write) (s : HistoryState) : Type 0 where
  pub flushed : s.flushed ≤ length held
  pub front : held ≡ take (length held) s.writes

pub front_within : (held : List Write) (s : HistoryState) → IsFrontOf held s → length held ≤ length s.writes
front_within held s is = omega (arith, ap (λ (l : List Write). length l) is.front, length-take (length held) s.writes)

pub front_short : (held : List Write) (s : HistoryState) → IsFrontOf held s → HasFewRows s.writes → HasFewRows held
front_short held s is short =
    let all : s.writes ≡ take (length held) s.writes ++ drop (length held) s.writes = sym (take-append-drop (length held) s.writes) in
    subst HasFewRows (sym is.front) (shorter (take (length held) s.writes) (drop (length held) s.writes) (subst HasFewRows all short))

-- nothing is a front of a table with no writes
pub no_front : (held : List Write) → held ≡ [] → IsFrontOf held no_base
no_front held none = record { flushed = omega arith; front = none ∙ sym (take_all (length held) no_writes (omega arith)) }

-- what was taken before a table got more writes was a front of it then
pub front_before : (held : List Write) (before now : HistoryState) → CallersKeep before now → IsFoundation before → length held ≤ now.taken → IsFrontOf held now → IsFrontOf held before
front_before held before now keeps sound few is = record {
  flushed = subst (λ (n : ℕ). n ≤ length held) keeps.flushed is.flushed;
  front = is.front ∙ ap (λ (l : List Write). take (length held) l) keeps.appends.1
      ∙ take-append-le (length held) before.writes keeps.appends.0 (omega (arith, few, keeps.taken, sound.taken, sound.handed_in));
}

-- ---- what a log has that is owed something, and what it has with that

pub with_more : (owed : Option LogRecord) (writes : List ℕ → List Write) (name : List ℕ) → (further : List Write) × (with_writes owed writes name ≡ writes name ++ further)
with_more None writes name = ([], sym (append-nil (writes name)))
with_more (Some r) writes name = by (bytes_eq name r.name)
  where
    by : (b : Bool) → (further : List Write) × (cond b (writes name ++ r.writes) (writes name) ≡ writes name ++ further)
    by true = (r.writes, refl)
    by false = ([], sym (append-nil (writes name)))

-- a list between the two
pub record IsBetween (logged taken held : List Write) : Type 0 where
  pub no_less : length logged ≤ length held
  pub front : held ≡ take (length held) taken

pub without_owed : (owed : Option LogRecord) (writes : List ℕ → List Write) (name : List ℕ) → IsBetween (writes name) (with_writes owed writes name) (writes name)
without_owed owed writes name =
    let more = with_more owed writes name in
    record { no_less = omega arith; front = sym (ap (λ (l : List Write). take (length (writes name)) l) more.1 ∙ take_at (writes name) more.0 (length (writes name)) refl) }

pub with_owed : (owed : Option LogRecord) (writes : List ℕ → List Write) (name : List ℕ) → IsBetween (writes name) (with_writes owed writes name) (with_writes owed writes name)
with_owed owed writes name =
    let more = with_more owed writes name in
    let taken : List Write = with_writes owed writes name in
    record {
      no_less = omega (arith, ap (λ (l : List Write). length l) more.1, length-append (writes name) more.0);
      front = sym (take_all (length taken) taken (omega arith));
    }

-- ---- fronts by what the log has

pub taken_count : (logged taken : List Write) (s : HistoryState) → IsLogged logged taken s → length taken ≡ s.taken
taken_count logged taken s is = omega (arith, ap (λ (l : List Write). length l) is.front, length-take s.taken s.writes, is.enough)

pub between_few : (logged taken held : List Write) (s : HistoryState) → IsLogged logged taken s → IsBetween logged taken held → length held ≤ s.taken
between_few logged taken held s is between = omega (arith, taken_count logged taken s is, ap (λ (l : List Write). length l) between.front, length-take (length held) taken)

pub logged_front : (logged taken held : List Write) (s : HistoryState) → IsLogged logged taken s → IsBetween logged taken held → IsFrontOf held s
logged_front logged taken held s is between = record {
  flushed = omega (arith, is.flushed, between.no_less);
  front = between.front ∙ ap (λ (l : List Write). take (length held) l) (sym is.front) ∙ take-take (length held) s.taken s.writes (between_few logged taken held s is between);
}

pub kept_least : (least most : List Write) (s : HistoryState) → IsKept least most s → IsFrontOf least s
kept_least least most s is = record { flushed = is.flushed; front = is.shortest }

pub kept_most : (least most : List Write) (s : HistoryState) → IsKept least most s → length least ≤ length most → IsFrontOf most s
kept_most least most s is more = record { flushed = omega (arith, is.flushed, more); front = is.longest }

pub treated_front : (writes : List Write) (s : HistoryState) → IsTreated writes s → IsFrontOf writes s
treated_front writes s is = record {
  flushed = is.flushed;
  front = sym (ap (λ (l : List Write). take (length writes) l) is.whole ∙ take_all (length writes) writes (omega arith));
}

-- a name that has no writes is treated with none
pub treated_none : (writes : List Write) → writes ≡ [] → IsTreated writes no_base
treated_none writes none = record { shut = refl; whole = sym none; flushed = omega arith; handed = refl }
