-- Tables that are opened run.
use Rattle.std.proofs.Common.{◌≡◌, ◌∙◌, ℕ, zero, suc, ◌-◌, ◌<◌, Bool, true, List, [], ◌∷◌, ◌++◌, length, take, Option, Some, refl, sym, ap, subst, arith, append_assoc}
use Rattle.std.specs.Prelude.{◌||◌, IfSome, slice_get, bytes_eq}
use Rattle.std.specs.List.{AllByRecursion}
use Rattle.std.proofs.lemmas.List.{length-take, take_all}
use Rattle.std.proofs.lemmas.Option.{same_Some}
use Rattle.leaf_model.specs.declared.writes.Write.{Write}
use Rattle.leaf_model.specs.Content.{Contents, content, content_from}
use Rattle.row_records.specs.Records.{LogRecord}
use Rattle.berth_face.specs.Berth.{Meaning}
use Rattle.disk_backup.specs.State.{LogState}
use Rattle.disk_backup.specs.Settling.{with_writes}
use Rattle.leaf_history.specs.Calls as call
use Rattle.leaf_history.specs.Replies as reply
use Rattle.leaf_history.specs.History.{Entry, HistoryState, LegalFrom, after, after_entry, opened}
use Rattle.leaf_history.specs.History as history
use Rattle.leaf_history.proofs.Histories.{LegalFrom-front, LegalFrom-back, after-append, others_keep}
use Rattle.crash_moments.specs.Watched.{Watched, Between, IsFoundation, IsWatched, AreApart, is_watched, now_of, was_opened}
use Rattle.crash_moments.specs.Told.{SeenMore}
use Rattle.crash_moments.proofs.Telling.{between_wider, between_append, opened_by}
use Rattle.crash_states.specs.Entries.{Enters, OpensAll, stewards}
use Rattle.crash_states.specs.Standing.{Runs, IsLogged, IsOwned, MayHave, StandsToOpen}
use Rattle.crash_states.proofs.Meeting.{callers_between}
use Rattle.crash_states.proofs.Names.{each_at}
use Rattle.crash_states.proofs.States.{now_sound}
use Rattle.crash_starting.specs.Laws.{Opens}

-- ---- the first of a table's writes

module _ (clock : ℕ) (w : Watched) (writes : List Write) (watched : IsWatched clock w) (may : MayHave writes (now_of w)) where
  abbrev count : ℕ
  count = length writes

  sound : IsFoundation (now_of w)
  sound = now_sound clock w watched

  first_writes : history.first_writes (now_of w) count ≡ writes
  first_writes =
      let all : count - (now_of w).handed_in ≡ count = omega (arith, sound.handed_in) in
      ap (λ (n : ℕ). take n (now_of w).writes) all ∙ sym may.front

  pub may_open : history.MayOpen (now_of w) count (content writes)
  may_open = record {
    flushed = may.flushed;
    accepted = omega (arith, ap (λ (l : List Write). length l) may.front, length-take count (now_of w).writes);
    all = λ handed. omega (arith, ap (λ (l : List Write). length l) (may.handed handed), sound.handed_in);
    contents_are = sym (ap (λ (c : Contents). content_from c (history.first_writes (now_of w) count)) sound.before ∙ ap content first_writes);
  }

  -- opened it has just these
  opened_logged : IsLogged writes writes (opened true (now_of w) count (content writes))
  opened_logged = record {
    front = ap (take count) first_writes ∙ take_all count writes (omega arith);
    enough = omega (arith, ap (λ (l : List Write). length l) first_writes);
    flushed = omega arith;
    handed = refl;
  }

  -- ---- its opening

  module _ (w' : Watched) (enters : Enters clock (call.Open count (content writes)) reply.Noted w w') where
    abbrev opening : Entry
    opening = stewards clock (call.Open count (content writes)) reply.Noted

    abbrev more : List Entry
    more = enters.between ++ opening ∷ []

    -- callers changed nothing before, since it was shut
    kept_shut : after true (now_of w) enters.between ≡ now_of w
    kept_shut =
        let legal : LegalFrom true w.base w'.seen = subst (λ (s : HistoryState). LegalFrom true s w'.seen) enters.base enters.legal in
        let behind : LegalFrom true (now_of w) more = LegalFrom-back true w.base w.seen more (subst (λ (es : List Entry). LegalFrom true w.base es) enters.seen legal) in
        (others_keep true (now_of w) enters.between (LegalFrom-front true (now_of w) enters.between (opening ∷ []) behind) enters.others).shut may.shut

    now_opened : now_of w' ≡ opened true (now_of w) count (content writes)
    now_opened =
        ap (λ (s : HistoryState). after true s w'.seen) enters.base ∙ ap (λ (es : List Entry). after true w.base es) enters.seen ∙ after-append true w.base w.seen more
        ∙ after-append true (now_of w) enters.between (opening ∷ []) ∙ ap (λ (s : HistoryState). after_entry true s opening) kept_shut

    pub now_logged : IsLogged writes writes (now_of w')
    now_logged = subst (IsLogged writes writes) (sym now_opened) opened_logged

-- ---- what was seen more

module _ (clock : ℕ) (c : call.Call) (r : reply.EntryReply) (w w' : Watched) (enters : Enters clock c r w w') where
  entered_between : Between clock clock (enters.between ++ stewards clock c r ∷ [])
  entered_between = between_append clock clock enters.between (stewards clock c r ∷ []) (callers_between clock clock enters.between enters.others) ((λ steward. (omega arith, omega arith)), tt)

  entered_watched : IsWatched clock w → IsWatched clock w'
  entered_watched watched =
      let more : List Entry = enters.between ++ stewards clock c r ∷ [] in
      record {
        base = subst IsFoundation (sym enters.base) watched.base;
        legal = enters.legal;
        made = subst (Between 0 clock) (sym enters.seen) (between_append 0 clock w.seen more watched.made (between_wider 0 clock clock clock more (omega arith) (omega arith) entered_between));
      }

-- ---- all tables

module _ (clock : ℕ) (writes : List ℕ → List Write) where
  abbrev OpensOne : Watched → Watched → Type 0
  OpensOne w w' = Enters clock (call.Open (length (writes w.name)) (content (writes w.name))) reply.Noted w w'

  opens_watched : (ws ws' : List Watched) → OpensAll clock writes ws ws' → AllByRecursion (IsWatched clock) ws → AllByRecursion (IsWatched clock) ws'
  opens_watched [] [] all each = tt
  opens_watched [] (w' ∷ ws') all each = absurd all
  opens_watched (w ∷ ws) [] all each = absurd all
  opens_watched (w ∷ ws) (w' ∷ ws') all each =
      (entered_watched clock (call.Open (length (writes w.name)) (content (writes w.name))) reply.Noted w w' all.0 each.0, opens_watched ws ws' all.1 each.1)

  opens_named : (ws ws' : List Watched) → OpensAll clock writes ws ws' → (name : List ℕ) → is_watched ws' name ≡ is_watched ws name
  opens_named [] [] all name = refl
  opens_named [] (w' ∷ ws') all name = absurd all
  opens_named (w ∷ ws) [] all name = absurd all
  opens_named (w ∷ ws) (w' ∷ ws') all name =
      ap (λ (n : List ℕ). bytes_eq name n || is_watched ws' name) all.0.name ∙ ap (λ (b : Bool). bytes_eq name w.name || b) (opens_named ws ws' all.1 name)

  opens_apart : (ws ws' : List Watched) → OpensAll clock writes ws ws' → AreApart ws → AreApart ws'
  opens_apart [] [] all apart = tt
  opens_apart [] (w' ∷ ws') all apart = absurd all
  opens_apart (w ∷ ws) [] all apart = absurd all
  opens_apart (w ∷ ws) (w' ∷ ws') all apart =
      (ap (is_watched ws') all.0.name ∙ opens_named ws ws' all.1 w.name ∙ apart.0, opens_apart ws ws' all.1 apart.1)

  opens_more : (ws ws' : List Watched) → OpensAll clock writes ws ws' → SeenMore clock clock ws ws'
  opens_more [] [] all = tt
  opens_more [] (w' ∷ ws') all = absurd all
  opens_more (w ∷ ws) [] all = absurd all
  opens_more (w ∷ ws) (w' ∷ ws') all = (
    (
      all.0.name,
      all.0.base,
      (
        all.0.between ++ stewards clock (call.Open (length (writes w.name)) (content (writes w.name))) reply.Noted ∷ [],
        all.0.seen,
        entered_between clock (call.Open (length (writes w.name)) (content (writes w.name))) reply.Noted w w' all.0,
      ),
    ),
    opens_more ws ws' all.1,
  )

  -- the table that was opened at a place
  opened_at : (ws ws' : List Watched) (place : ℕ) (w' : Watched) → OpensAll clock writes ws ws' → slice_get ws' place ≡ Some w' → (w : Watched) × (slice_get ws place ≡ Some w) × OpensOne w w'
  opened_at [] [] place w' all at = absurd cc
  opened_at [] (v' ∷ ws') place w' all at = absurd all
  opened_at (v ∷ ws) [] place w' all at = absurd all
  opened_at (v ∷ ws) (v' ∷ ws') zero w' all at = (v, refl, subst (OpensOne v) (same_Some v' w' at) all.0)
  opened_at (v ∷ ws) (v' ∷ ws') (suc place) w' all at = opened_at ws ws' place w' all.1 at

  opens_first : (ws ws' : List Watched) → OpensAll clock writes ws ws' → 0 < length ws → was_opened clock ws' ≡ true
  opens_first [] ws' all some = absurd (omega (arith, some))
  opens_first (w ∷ ws) [] all some = absurd all
  opens_first (w ∷ ws) (w' ∷ ws') all some =
      let e : Entry = stewards clock (call.Open (length (writes w.name)) (content (writes w.name))) reply.Noted in
      opened_by clock 0 w' (w.seen ++ all.0.between) e (w' ∷ ws') refl (all.0.seen ∙ sym (append_assoc w.seen all.0.between (e ∷ []))) refl (omega arith) refl

-- ---- and so they run

module _ (ws ws' : List Watched) (owner : ℕ) (log : LogState) (writes : List ℕ → List Write) (m : Meaning) (may : StandsToOpen ws log writes m) (all : OpensAll m.clock writes ws ws') where
  logged_at : (place : ℕ) (w' : Watched) → slice_get ws' place ≡ Some w' → IsLogged (writes w'.name) (with_writes log.owed writes w'.name) (now_of w')
  logged_at place w' at =
      let was = opened_at m.clock writes ws ws' place w' all at in
      let w : Watched = was.0 in
      let watched : IsWatched m.clock w = each_at (IsWatched m.clock) ws may.watched.each place w was.1 in
      let logged : IsLogged (writes w.name) (writes w.name) (now_of w') = now_logged m.clock w (writes w.name) watched (may.each place w was.1) w' was.2 in
      let named : IsLogged (writes w'.name) (writes w'.name) (now_of w') = subst (λ (n : List ℕ). IsLogged (writes n) (writes n) (now_of w')) (sym was.2.name) logged in
      subst (λ (o : Option LogRecord). IsLogged (writes w'.name) (with_writes o writes w'.name) (now_of w')) (sym may.owed) named

  pub opened_runs : 0 < length ws → Runs ws' owner log writes m
  opened_runs some = record {
    watched = record { each = opens_watched m.clock writes ws ws' all may.watched.each; apart = opens_apart m.clock writes ws ws' all may.watched.apart };
    opened = opens_first m.clock writes ws ws' all some;
    stands = may.stands;
    logs = may.logs;
    closed = may.closed;
    each = logged_at;
    owned = subst (λ (o : Option LogRecord). IfSome o (IsOwned ws' owner)) (sym may.owed) tt;
    others = λ name unwatched. subst (λ (o : Option LogRecord). with_writes o writes name ≡ []) (sym may.owed) (may.others name (sym (opens_named m.clock writes ws ws' all name) ∙ unwatched));
  }

  pub opened_all : 0 < length ws → Opens ws ws' owner log writes m
  opened_all some = record { runs = opened_runs some; more = opens_more m.clock writes ws ws' all }
