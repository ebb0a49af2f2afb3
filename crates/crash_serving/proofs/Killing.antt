-- A leaf is killed: each table that is open is shut, and what was owed is not settled.
use Rattle.std.proofs.Common.{◌≡◌, ◌⊎◌, ◌∙◌, inl, inr, ℕ, zero, suc, ◌<◌, Bool, true, false, List, [], ◌∷◌, ◌++◌, length, take, Option, Some, None, refl, sym, ap, subst, arith, length-append}
use Rattle.std.specs.Prelude.{◌||◌, slice_get, bytes_eq}
use Rattle.std.specs.List.{AllByRecursion}
use Rattle.std.proofs.lemmas.Bool.{false≢true}
use Rattle.std.proofs.lemmas.Option.{same_Some}
use Rattle.leaf_model.specs.declared.writes.Write.{Write}
use Rattle.berth_face.specs.Berth.{Meaning}
use Rattle.leaf_history.specs.Calls as call
use Rattle.leaf_history.specs.Replies as reply
use Rattle.leaf_history.specs.History.{HistoryState, write_count}
use Rattle.row_records.specs.Records.{LogRecord}
use Rattle.row_records.specs.Pending.{pending_bytes}
use Rattle.disk_backup.specs.Logs.{open_records}
use Rattle.disk_backup.specs.State.{LogState}
use Rattle.disk_backup.specs.Settling.{HoldsOwing, with_writes}
use Rattle.crash_moments.specs.Left.{NamedStates, closed}
use Rattle.crash_moments.specs.Watched.{Watched, AreApart, IsFoundation, IsWatched, is_watched, now_of, was_opened}
use Rattle.crash_moments.specs.Told.{SeenMore}
use Rattle.crash_moments.proofs.Telling.{none_more, opened_more}
use Rattle.crash_states.specs.Standing.{IsKept, IsLogged, Rests, Runs, states_of_tables}
use Rattle.crash_states.specs.Entries.{Enters, ShutsAll}
use Rattle.crash_serving.specs.Laws.{IsKilled}
use Rattle.crash_states.proofs.Names.{IsForeign, IsOwn, find_name, no_others, others_at}
use Rattle.crash_states.proofs.States.{IsBetween, logged_front, with_owed, without_owed}
use Rattle.crash_states.proofs.Lefts.{runs_logs}
use Rattle.crash_states.proofs.Meeting.{learned_logged}
use Rattle.crash_serving.proofs.Entering.{entry_is, entry_learns, entry_more, entry_watched, just_before}

-- the table was shut before, or it is shut now
abbrev Ends : ℕ → Watched → Watched → Type 0
Ends clock w w' = (((now_of w).live ≡ false) × (w' ≡ w)) ⊎ ((n : ℕ) × Enters clock call.Shut (reply.Counted n) w w')

-- ---- one table

-- a table of this alone
abbrev one : Watched → List Watched
one w = w ∷ []

ends_more : (clock : ℕ) (w w' : Watched) → Ends clock w w' → SeenMore clock clock (one w) (one w')
ends_more clock w w' (inl shut) = subst (λ (x : Watched). SeenMore clock clock (one w) (one x)) (sym shut.1) (none_more clock clock (one w))
ends_more clock w w' (inr shuts) = ((shuts.1.name, shuts.1.base, entry_more shuts.1), tt)

ends_watched : (clock : ℕ) (w w' : Watched) → Ends clock w w' → IsWatched clock w → IsWatched clock w'
ends_watched clock w w' (inl shut) watched = subst (IsWatched clock) (sym shut.1) watched
ends_watched clock w w' (inr shuts) watched = entry_watched shuts.1 watched

-- what is kept of a shut table with these writes
kept_of : (logged taken : List Write) (s : HistoryState) → IsBetween logged taken logged → IsBetween logged taken taken → IsLogged logged taken s
    → (now : HistoryState) → now.live ≡ false → now.writes ≡ s.writes → now.flushed ≡ s.flushed → now.handed ≡ s.handed → IsKept logged taken now
kept_of logged taken s without whole is now shut same flushed handed = record {
  shut = shut;
  flushed = omega (arith, flushed, is.flushed);
  shortest = (logged_front logged taken logged s is without).front ∙ ap (take (length logged)) (sym same);
  longest = (logged_front logged taken taken s is whole).front ∙ ap (take (length taken)) (sym same);
  handed = λ done. absurd (false≢true (sym is.handed ∙ sym handed ∙ done));
}

ends_kept : (logged taken : List Write) → IsBetween logged taken logged → IsBetween logged taken taken → (clock : ℕ) (w w' : Watched) → Ends clock w w'
    → IsLogged logged taken (now_of w) → IsKept logged taken (now_of w')
ends_kept logged taken without whole clock w w' (inl shut) is =
    subst (λ (x : Watched). IsKept logged taken (now_of x)) (sym shut.1) (kept_of logged taken (now_of w) without whole is (now_of w) shut.0 refl refl refl)
ends_kept logged taken without whole clock w w' (inr shuts) is =
    let before : Watched = just_before shuts.1 in
    let s : HistoryState = now_of before in
    subst (IsKept logged taken) (sym (entry_is shuts.1))
    (kept_of logged taken s without whole (learned_logged w before (entry_learns shuts.1) logged taken is) (record s { live = false; taken = write_count s }) refl refl refl refl)

-- ---- all tables

ends_at : (clock : ℕ) (ws ws' : List Watched) (place : ℕ) (w' : Watched) → ShutsAll clock ws ws' → slice_get ws' place ≡ Some w' → (w : Watched) × (slice_get ws place ≡ Some w) × Ends clock w w'
ends_at clock [] [] place w' all at = absurd cc
ends_at clock [] (v' ∷ ws') place w' all at = absurd all
ends_at clock (v ∷ ws) [] place w' all at = absurd all
ends_at clock (v ∷ ws) (v' ∷ ws') zero w' all at = (v, refl, subst (Ends clock v) (same_Some v' w' at) all.0)
ends_at clock (v ∷ ws) (v' ∷ ws') (suc place) w' all at = ends_at clock ws ws' place w' all.1 at

all_more : (clock : ℕ) (ws ws' : List Watched) → ShutsAll clock ws ws' → SeenMore clock clock ws ws'
all_more clock [] [] all = tt
all_more clock [] (w' ∷ ws') all = absurd all
all_more clock (w ∷ ws) [] all = absurd all
all_more clock (w ∷ ws) (w' ∷ ws') all = ((ends_more clock w w' all.0).0, all_more clock ws ws' all.1)

all_each : (clock : ℕ) (ws ws' : List Watched) → ShutsAll clock ws ws' → AllByRecursion (IsWatched clock) ws → AllByRecursion (IsWatched clock) ws'
all_each clock [] [] all each = tt
all_each clock [] (w' ∷ ws') all each = absurd all
all_each clock (w ∷ ws) [] all each = absurd all
all_each clock (w ∷ ws) (w' ∷ ws') all each = (ends_watched clock w w' all.0 each.0, all_each clock ws ws' all.1 each.1)

same_names : (from to : ℕ) (ws ws' : List Watched) (name : List ℕ) → SeenMore from to ws ws' → is_watched ws' name ≡ is_watched ws name
same_names from to [] [] name more = refl
same_names from to [] (w' ∷ ws') name more = absurd more
same_names from to (w ∷ ws) [] name more = absurd more
same_names from to (w ∷ ws) (w' ∷ ws') name more =
    ap (λ (n : List ℕ). bytes_eq name n || is_watched ws' name) more.0.0 ∙ ap (λ (b : Bool). bytes_eq name w.name || b) (same_names from to ws ws' name more.1)

still_apart : (from to : ℕ) (ws ws' : List Watched) → SeenMore from to ws ws' → AreApart ws → AreApart ws'
still_apart from to [] [] more apart = tt
still_apart from to [] (w' ∷ ws') more apart = absurd more
still_apart from to (w ∷ ws) [] more apart = absurd more
still_apart from to (w ∷ ws) (w' ∷ ws') more apart = (ap (is_watched ws') more.0.0 ∙ same_names from to ws ws' w.name more.1 ∙ apart.0, still_apart from to ws ws' more.1 apart.1)

-- ---- a leaf

-- a log has its gate at least
owing_long : (owed : Option LogRecord) (laid : Bool) (end : ℕ) (records : List LogRecord) (disk : List ℕ) → HoldsOwing owed laid end records disk → 0 < length disk
owing_long None laid end records disk holds = omega (arith, ap length holds.is, length-append (open_records records) (holds.gate ∷ holds.rest))
owing_long (Some r) false end records disk holds = omega (arith, ap length holds.0.is, length-append (open_records records) (holds.0.gate ∷ holds.0.rest))
owing_long (Some r) true end records disk holds = omega (arith, ap length holds.is, length-append (open_records records) (holds.gate ∷ (pending_bytes (Some r) ++ holds.rest)))

module _ (ws ws' : List Watched) (owner : ℕ) (log : LogState) (writes : List ℕ → List Write) (m : Meaning) (runs : Runs ws owner log writes m) (all : ShutsAll m.clock ws ws') where
  more : SeenMore m.clock m.clock ws ws'
  more = all_more m.clock ws ws' all

  abbrev taken : List ℕ → List Write
  taken name = with_writes log.owed writes name

  still_opened : was_opened m.clock ws' ≡ true
  still_opened = opened_more m.clock m.clock m.clock m.clock ws ws' (omega arith) more runs.opened

  each_kept : (others : NamedStates) (name : List ℕ) → IsKept (writes name) (taken name) (states_of_tables others ws' m name)
  each_kept others name = by (find_name ws' name)
    where
      by : IsOwn ws' name ⊎ IsForeign ws' name → IsKept (writes name) (taken name) (states_of_tables others ws' m name)
      by (inl own) =
          let ends = ends_at m.clock ws ws' own.place own.table all own.at in
          let same : ends.0.name ≡ name = sym (ends_more m.clock ends.0 own.table ends.2).0.0 ∙ own.named in
          let is : IsLogged (writes name) (taken name) (now_of ends.0) = subst (λ (n : List ℕ). IsLogged (writes n) (taken n) (now_of ends.0)) same (runs.each own.place ends.0 ends.1) in
          subst (IsKept (writes name) (taken name)) (sym (own.stands now_of (others_at others m.clock ws')))
          (ends_kept (writes name) (taken name) (without_owed log.owed writes name) (with_owed log.owed writes name) m.clock ends.0 own.table ends.2 is)
      by (inr foreign) =
          let none : taken name ≡ [] = runs.others name (sym (same_names m.clock m.clock ws ws' name more) ∙ foreign.unwatched) in
          subst (IsKept (writes name) (taken name)) (sym (foreign.stands now_of (others_at others m.clock ws') ∙ no_others (was_opened m.clock ws') others name still_opened))
          (record {
            shut = refl;
            flushed = omega arith;
            shortest = (without_owed log.owed writes name).front ∙ ap (take (length (writes name))) none;
            longest = (with_owed log.owed writes name).front ∙ ap (take (length (taken name))) none;
            handed = λ done. absurd (false≢true done);
          })

  killed_rests : (others : NamedStates) → ((name : List ℕ) → IsFoundation (others name)) → Rests ws' others writes log.owed m
  killed_rests others sound = record {
    watched = record { each = all_each m.clock ws ws' all runs.watched.each; apart = still_apart m.clock m.clock ws ws' more runs.watched.apart };
    stands = runs.stands;
    logs = runs_logs ws owner log writes m runs;
    each = each_kept others;
    sound = sound;
    empty = λ none. let had = runs.logs m.held runs.stands.reads in absurd (omega (arith, owing_long log.owed log.laid log.end had.0 m.held.disk had.1, ap length none));
    region = λ p left. closed (runs.closed m.held runs.stands.reads);
  }

  pub killing : IsKilled ws ws' log writes m
  killing = record { rests = killed_rests; more = more }
