-- Another leaf may begin where one serves its tables or shuts them: as if it had shut each open table, and then rested.
use Rattle.std.proofs.Common.{◌≡◌, ◌⊎◌, inl, inr, ◌∙◌, ℕ, Bool, true, false, List, [], ◌∷◌, ◌++◌, length, take, refl, sym, ap, subst, arith, append-nil, le_refl}
use Rattle.std.specs.Prelude.{IsTrue, bytes_eq, if◌then◌else◌}
use Rattle.std.specs.List.{AllByRecursion}
use Rattle.leaf_model.specs.declared.writes.Write.{Write}
use Rattle.berth_face.specs.Berth.{Meaning}
use Rattle.leaf_history.specs.Calls as call
use Rattle.leaf_history.specs.Replies as reply
use Rattle.leaf_history.specs.History.{Entry, LegalFrom, HistoryState, after, write_count}
use Rattle.leaf_history.proofs.Histories.{LegalFrom-append, after-append}
use Rattle.disk_backup.specs.State.{LogState}
use Rattle.crash_moments.specs.Left.{NamedStates}
use Rattle.crash_moments.specs.Watched.{Watched, IsFoundation, IsWatched, by_name, now_of, others_then, was_opened}
use Rattle.crash_moments.proofs.Telling.{opened_more}
use Rattle.crash_states.specs.Standing.{Runs, states_of_tables}
use Rattle.crash_states.specs.Entries.{Enters, ShutsAll, stewards}
use Rattle.crash_serving.specs.Laws.{IsKilled}
use Rattle.crash_serving.proofs.Running.{kills}
use Rattle.crash_states.specs.Beginning.{IsFrontOf, BeginsAgain}
use Rattle.leaf_machine.proofs.LeaveRests.{rests_begin}

-- ---- one table

-- its steward's entry that shuts it, where it is open
abbrev shutting : ℕ → HistoryState → Bool → List Entry
shutting clock s true = stewards clock call.Shut (reply.Counted (write_count s)) ∷ []
shutting clock s false = []

abbrev with_entries : Watched → List Entry → Watched
with_entries w es = record { name = w.name; base = w.base; seen = w.seen ++ es }

abbrev shut_one : ℕ → Watched → Watched
shut_one clock w = with_entries w (shutting clock (now_of w) (now_of w).live)

shuts_one : (clock : ℕ) (w : Watched) → LegalFrom true w.base w.seen → (live : Bool) → (now_of w).live ≡ live
    → (((now_of w).live ≡ false) × (with_entries w (shutting clock (now_of w) live) ≡ w)) ⊎ ((n : ℕ) × Enters clock call.Shut (reply.Counted n) w (with_entries w (shutting clock (now_of w) live)))
shuts_one clock w legal true is = inr (
  write_count (now_of w),
  record {
    name = refl;
    base = refl;
    between = [];
    others = tt;
    seen = refl;
    legal = LegalFrom-append true w.base w.seen (shutting clock (now_of w) true) legal ((refl, is, refl), tt);
  },
)
shuts_one clock w legal false is = inl (is, ap (λ (es : List Entry). record { name = w.name; base = w.base; seen = es }) (append-nil w.seen))

-- it has the same writes, the same of them are flushed, and it has as many spare columns
abbrev IsAlike : HistoryState → HistoryState → Type 0
IsAlike s t = (t.writes ≡ s.writes) × (t.flushed ≡ s.flushed) × (t.spare ≡ s.spare)

one_alike : (clock : ℕ) (w : Watched) → IsAlike (now_of w) (now_of (shut_one clock w))
one_alike clock w = subst (IsAlike (now_of w)) (sym (after-append true w.base w.seen (shutting clock (now_of w) (now_of w).live))) (by (now_of w).live)
  where
    by : (live : Bool) → IsAlike (now_of w) (after true (now_of w) (shutting clock (now_of w) live))
    by true = (refl, refl, refl)
    by false = (refl, refl, refl)

-- ---- all tables

abbrev shut_each : ℕ → List Watched → List Watched
shut_each clock [] = []
shut_each clock (w ∷ ws) = shut_one clock w ∷ shut_each clock ws

shuts_each : (clock : ℕ) (ws : List Watched) → AllByRecursion (IsWatched clock) ws → ShutsAll clock ws (shut_each clock ws)
shuts_each clock [] each = tt
shuts_each clock (w ∷ ws) each = (shuts_one clock w each.0.legal (now_of w).live refl, shuts_each clock ws each.1)

each_alike : (clock : ℕ) (others : NamedStates) (ws : List Watched) (name : List ℕ) → IsAlike (by_name now_of others ws name) (by_name now_of others (shut_each clock ws) name)
each_alike clock others [] name = (refl, refl, refl)
each_alike clock others (w ∷ ws) name = by (bytes_eq name w.name) (each_alike clock others ws name)
  where
    by : (here : Bool) → IsAlike (by_name now_of others ws name) (by_name now_of others (shut_each clock ws) name)
        → IsAlike (if here then now_of w else by_name now_of others ws name) (if here then now_of (shut_one clock w) else by_name now_of others (shut_each clock ws) name)
    by true rest = one_alike clock w
    by false rest = rest

-- ---- the leaf

front_alike : (s t b : HistoryState) → IsAlike s t → IsFrontOf t b → IsFrontOf s b
front_alike s t b alike is = record {
  front = is.front ∙ ap (λ (ws : List Write). take (length b.writes) ws) alike.0;
  flushed = omega (arith, is.flushed, alike.1);
  spare = omega (arith, is.spare, alike.2);
}

module _ (ws : List Watched) (others : NamedStates) (owner : ℕ) (log : LogState) (writes : List ℕ → List Write) (m : Meaning) (runs : Runs ws owner log writes m) where
  abbrev ws' : List Watched
  ws' = shut_each m.clock ws

  killed : IsKilled ws ws' log writes m
  killed = kills ws ws' owner log writes m runs (shuts_each m.clock ws runs.watched.each)

  -- the leaf has opened a table, before and behind
  tables_alike : (name : List ℕ) → IsAlike (states_of_tables others ws m name) (states_of_tables others ws' m name)
  tables_alike name =
      let opened : was_opened m.clock ws' ≡ true = opened_more m.clock m.clock m.clock m.clock ws ws' (le_refl m.clock) killed.more runs.opened in
      subst (λ (before : Bool). IsAlike (by_name now_of (others_then before others) ws name) (states_of_tables others ws' m name)) (sym runs.opened)
      (subst (λ (behind : Bool). IsAlike (by_name now_of (others_then true others) ws name) (by_name now_of (others_then behind others) ws' name)) (sym opened)
      (each_alike m.clock (others_then true others) ws name))

  pub runs_begin : IsTrue m.tells → ((name : List ℕ) → IsFoundation (others name)) → BeginsAgain (states_of_tables others ws m) m
  runs_begin tells sound =
      let begun : BeginsAgain (states_of_tables others ws' m) m = rests_begin ws' others writes log.owed m (killed.rests others sound) tells in
      record {
        base = begun.base;
        is = begun.is;
        begins = begun.begins;
        tight = begun.tight;
        least = begun.least;
        front = λ name. front_alike (states_of_tables others ws m name) (states_of_tables others ws' m name) (begun.base name) (tables_alike name) (begun.front name);
      }
