-- How many writes of each table the log of a disk has: of a leaf that serves, and of one at rest.
use Rattle.std.proofs.Common.{◌≡◌, ◌⊎◌, inl, inr, ℕ, ◌≤◌, true, List, [], ◌∷◌, length, refl, sym, ap, subst, ◌∙◌, arith, Option, Some, None}
use Rattle.std.specs.Prelude.{slice_get}
use Rattle.std.proofs.lemmas.Bool.{cases_lt}
use Rattle.std.proofs.lemmas.List.{length-append, length-take}
use Rattle.leaf_model.specs.declared.writes.Write.{Write}
use Rattle.row_records.specs.Records.{LogRecord}
use Rattle.berth_face.specs.Berth.{Meaning}
use Rattle.leaf_history.specs.History.{HistoryState, after, write_count}
use Rattle.disk_backup.specs.Logs.{IsLog, is_short, is_closed, writes_of}
use Rattle.disk_backup.specs.State.{LogState}
use Rattle.disk_backup.specs.Settling.{HoldsOwing, with_writes}
use Rattle.disk_backup.specs.SoundLogs.{HasSoundLog}
use Rattle.disk_backup.specs.Scanning.{BeginsScan, scanned_disk}
use Rattle.disk_backup.proofs.Beginning.{begun_short, begun_long}
use Rattle.disk_backup.proofs.Logs.{one_log, closed_is_log}
use Rattle.crash_moments.specs.Left.{NamedStates}
use Rattle.crash_moments.specs.Watched.{Watched, IsFoundation, now_of, others_then, was_opened}
use Rattle.crash_states.specs.Standing.{IsKept, IsLogged, Rests, Runs, states_of_tables}
use Rattle.crash_states.proofs.Names.{each_at, named_at}
use Rattle.crash_states.proofs.States.{now_sound, taken_count, with_more}
use Rattle.leaf_table.specs.Turns.{Shared}
use Rattle.leaf_table.specs.Calls.{SeatView, name_of, seen_of}
use Rattle.leaf_steward.specs.Seated.{Seated, AtEach, watched, watched_by}
use Rattle.leaf_steward.proofs.Watching.{watch_get}
use Rattle.leaf_machine.specs.States.{Serving, IsShutAndTaken}
use Rattle.transcript.specs.Base.{LogHas}
use Rattle.leaf_moves.specs.Stage.{IsDown, ServingStands, LeafStands}
use Rattle.transcript_leaf.specs.Session.{AtCounts, IsSettled}
use Rattle.transcript_leaf.proofs.Lists.{element_at, within}
use Rattle.transcript_leaf.proofs.Counting.{IsFoundedWith, state_with}
use Rattle.transcript_leaf.proofs.CountingNotes.{TablesFounded}

-- the log has so many writes of each table
abbrev pub AreLogged : List ℕ → List ℕ → Seated → Type 0
AreLogged disk counts x = AtCounts (λ t v n. LogHas disk (name_of t) n) x counts

-- ---- what the log of a disk has

pub one_count : (disk name : List ℕ) (a b : ℕ) → LogHas disk name a → LogHas disk name b → a ≡ b
one_count disk name a b has other =
    has.3 ∙ ap (λ (records : List LogRecord). length (writes_of name records)) (one_log disk has.0 other.0 has.1 other.1 has.2 other.2).0 ∙ sym other.3

-- a disk of at most one byte has no writes
no_count : (disk name : List ℕ) (a : ℕ) → length disk ≤ 1 → LogHas disk name a → a ≡ 0
no_count disk name a short has = by has.2
  where
    by : IsLog disk has.0 has.1 → a ≡ 0
    by (is_short few none at) = has.3 ∙ ap (λ (records : List LogRecord). length (writes_of name records)) none
    by (is_closed log long) = absurd (omega (arith, short, long))

has_none : (disk name : List ℕ) (a : ℕ) → length disk ≤ 1 → a ≡ 0 → LogHas disk name a
has_none disk name a short none = ([], 0, is_short short refl refl, none)

-- whatever became of its first byte while a scan began, it has the same log
pub has_begins : (disk now name : List ℕ) (a : ℕ) → BeginsScan (length disk) disk now → LogHas disk name a → LogHas now name a
has_begins disk now name a (inl same) has = subst (λ (d : List ℕ). LogHas d name a) (sym same) has
has_begins disk now name a (inr first) has = has_none now name a (omega (arith, first.short, first.torn.no_longer)) (no_count disk name a first.short has)

pub has_begun : (disk name : List ℕ) (a : ℕ) → LogHas disk name a → LogHas (scanned_disk disk) name a
has_begun disk name a has = elim (cases_lt 1 (length disk)) [
  | inl long ↦ subst (λ (d : List ℕ). LogHas d name a) (sym (begun_long disk long)) has
  | inr short ↦ subst (λ (d : List ℕ). LogHas d name a) (sym (begun_short disk short)) (has_none (0 ∷ []) name a (omega arith) (no_count disk name a short has))
]

-- the same tables have the same log, whatever their seats have seen
pub logged_on : (disk counts : List ℕ) (x y : Seated) → y.tables ≡ x.tables → ((place : ℕ) (t : Shared) → slice_get x.tables place ≡ Some t → (v : SeatView) × (slice_get x.seats place ≡ Some v))
    → AreLogged disk counts x → AreLogged disk counts y
logged_on disk counts x y same seats logged = λ place t w at now n e.
    let there : slice_get x.tables place ≡ Some t = ap (λ (ts : List Shared). slice_get ts place) (sym same) ∙ at in
    let seat = seats place t there in
    logged place t seat.0 there seat.1 n e

-- ---- of a leaf that serves, and owes its log nothing

module _ (ws : List Watched) (owner : ℕ) (log : LogState) (writes : List ℕ → List Write) (m : Meaning) (runs : Runs ws owner log writes m) (none : log.owed ≡ None) where
  runs_has : (name : List ℕ) → LogHas m.held.disk name (length (writes name))
  runs_has name =
      let had = runs.logs m.held runs.stands.reads in
      let closed = subst (λ (o : Option LogRecord). HoldsOwing o log.laid log.end had.0 m.held.disk) none had.1 in
      (had.0, log.end, closed_is_log m.held.disk had.0 log.end closed, ap (λ (l : List Write). length l) (sym (had.2 name)))

  -- all that was taken of a table
  runs_taken : (place : ℕ) (w : Watched) → slice_get ws place ≡ Some w → LogHas m.held.disk w.name (now_of w).taken
  runs_taken place w at =
      let logged : IsLogged (writes w.name) (writes w.name) (now_of w) =
      subst (λ (o : Option LogRecord). IsLogged (writes w.name) (with_writes o writes w.name) (now_of w)) none (runs.each place w at) in
      subst (λ (n : ℕ). LogHas m.held.disk w.name n) (taken_count (writes w.name) (writes w.name) (now_of w) logged) (runs_has w.name)

-- a table as it is watched stands where its seat has seen it
now_with : (base : NamedStates) (t : Shared) (v : SeatView) → IsFoundedWith base t → now_of (watched t v) ≡ state_with base t v
now_with base t v founded = ap (λ (b : HistoryState). after true b (seen_of v)) founded.1

pub serving_has : (base : NamedStates) (s : Serving) (m : Meaning) → TablesFounded base s.seated → s.owing.log.owed ≡ None → ServingStands s m
    → AtEach (λ place t v. LogHas m.held.disk (name_of t) (state_with base t v).taken) s.seated
serving_has base s m founded none stands = λ place t v at sat.
    subst (λ (state : HistoryState). LogHas m.held.disk (name_of t) state.taken) (now_with base t v (founded place t at))
    (runs_taken (watched_by s.seated) s.owing.owner s.owing.log stands.0 m stands.1 none place (watched t v) (watch_get s.seated place t v at sat))

-- where all that was taken is flushed, the counts say it
pub serving_logged : (base : NamedStates) (counts : List ℕ) (s : Serving) (m : Meaning) → TablesFounded base s.seated → s.owing.log.owed ≡ None → ServingStands s m
    → AtCounts (IsSettled base) s.seated counts → AreLogged m.held.disk counts s.seated
serving_logged base counts s m founded none stands settled = λ place t v at sat n e.
    subst (λ (k : ℕ). LogHas m.held.disk (name_of t) k) (settled place t v at sat n e).0 (serving_has base s m founded none stands place t v at sat)

-- ---- of a leaf at rest

-- a log with these writes
has_writes : (disk : List ℕ) (writes : List ℕ → List Write) (name : List ℕ) (n : ℕ) → HasSoundLog writes disk → length (writes name) ≡ n → LogHas disk name n
has_writes disk writes name n log count = (log.sound.0, log.sound.1, log.sound.2, sym count ∙ ap (λ (ws : List Write). length ws) (sym (log.each name)))

-- what a log has at least and at most, it has where that is all of a table
kept_count : (least most : List Write) (s : HistoryState) → IsKept least most s → length least ≤ length most → s.flushed ≡ length s.writes
    → (length least ≡ s.flushed) × (length most ≡ s.flushed)
kept_count least most s kept more all =
    let short : length least ≤ length s.writes = omega (arith, ap (λ (ws : List Write). length ws) kept.shortest, length-take (length least) s.writes) in
    let long : length most ≤ length s.writes = omega (arith, ap (λ (ws : List Write). length ws) kept.longest, length-take (length most) s.writes) in
    (omega (arith, short, kept.flushed, all), omega (arith, long, more, kept.flushed, all))

-- all writes of the table were taken and flushed
pub record IsWhole (s : HistoryState) : Type 0 where
  pub taken : s.taken ≡ write_count s
  pub flushed : s.flushed ≡ s.taken

-- where the leaf rests, and all writes of its tables were taken and flushed, the log has them
pub rests_has : (base : NamedStates) (x : Seated) (least : List ℕ → List Write) (next : Option LogRecord) (m : Meaning)
    → TablesFounded base x → Rests (watched_by x) base least next m
    → AtEach (λ place t v. IsWhole (state_with base t v)) x
    → AtEach (λ place t v. LogHas m.held.disk (name_of t) (state_with base t v).taken) x
rests_has base x least next m founded rests whole = λ place t v at was.
    here place t v (watch_get x place t v at was) (ap (λ (b : HistoryState). after true b (seen_of v)) (founded place t at).1) (whole place t v at was)
  where
    more : (name : List ℕ) → length (least name) ≤ length (with_writes next least name)
    more name = let extra = with_more next least name in omega (arith, ap (λ (ws : List Write). length ws) extra.1, length-append (least name) extra.0)

    either : (name : List ℕ) (n : ℕ) → length (least name) ≡ n → length (with_writes next least name) ≡ n
        → HasSoundLog least m.held.disk ⊎ HasSoundLog (with_writes next least) m.held.disk → LogHas m.held.disk name n
    either name n short long (inl log) = has_writes m.held.disk least name n log short
    either name n short long (inr log) = has_writes m.held.disk (with_writes next least) name n log long

    here : (place : ℕ) (t : Shared) (v : SeatView) → slice_get (watched_by x) place ≡ Some (watched t v) → now_of (watched t v) ≡ state_with base t v
        → IsWhole (state_with base t v) → LogHas m.held.disk (name_of t) (state_with base t v).taken
    here place t v watch now whole =
        let name = name_of t in
        let w = watched t v in
        let s = state_with base t v in
        let most = with_writes next least name in
        let others = others_then (was_opened m.clock (watched_by x)) base in
        let stands : states_of_tables base (watched_by x) m name ≡ s = named_at now_of others (watched_by x) place w rests.watched.apart watch ∙ now in
        let kept : IsKept (least name) most s = subst (IsKept (least name) most) stands (rests.each name) in
        let sound : IsFoundation s = subst IsFoundation now (now_sound m.clock w (each_at _ (watched_by x) rests.watched.each place w watch)) in
        let all : s.flushed ≡ length s.writes = omega (arith, whole.flushed, whole.taken, sound.handed_in) in
        let both = kept_count (least name) most s kept (more name) all in
        either name s.taken (both.0 ∙ whole.flushed) (both.1 ∙ whole.flushed) (rests.logs m.held rests.stands.reads)

-- and the counts say it, where all that was taken is flushed and each table is shut
pub rests_logged : (base : NamedStates) (counts : List ℕ) (x : Seated) (m : Meaning) → TablesFounded base x → length counts ≡ length x.tables → LeafStands base (IsDown x) m
    → AtCounts (IsSettled base) x counts → AtEach (λ place t v. IsShutAndTaken (state_with base t v)) x
    → AreLogged m.held.disk counts x
rests_logged base counts x m founded count stands settled shut = λ place t v at was n e.
    subst (λ (k : ℕ). LogHas m.held.disk (name_of t) k) (settled place t v at was n e).0 (rests_has base x stands.0 stands.1 m founded stands.2 whole place t v at was)
  where
    whole : AtEach (λ p u w. IsWhole (state_with base u w)) x
    whole p u w a b =
        let n = element_at counts p (omega (arith, within x.tables p u a, count)) in
        let is = settled p u w a b n.0 n.1 in
        record { taken = (shut p u w a b).taken; flushed = is.1 ∙ sym is.0 }
