-- Tables that their steward has not seen yet stand as their base says: shut, and sound.
use Rattle.std.proofs.Common.{◌≡◌, ℕ, zero, suc, ◌≤◌, ◌^◌, Bool, true, false, List, [], ◌∷◌, length, take, Some, refl, sym, ap, subst, ◌∙◌, arith}
use Rattle.std.specs.Prelude.{◌||◌, slice_get, if◌then◌else◌, bytes_eq}
use Rattle.std.specs.List.{AllByRecursion, list_any}
use Rattle.std.proofs.lemmas.Bool.{false≢true}
use Rattle.std.proofs.lemmas.List.{take_all, length-take-le}
use Rattle.std.proofs.lemmas.Slice.Eq.{bytes_eq-Decides}
use Rattle.leaf_model.specs.declared.writes.Write.{Write}
use Rattle.leaf_model.specs.Content.{content}
use Rattle.leaf_history.specs.History.{HistoryState, Entry, LegalFrom, after}
use Rattle.berth_face.specs.Berth.{Pair, Meaning}
use Rattle.row_records.specs.Records.{LogRecord}
use Rattle.disk_backup.specs.Logs.{writes_of}
use Rattle.disk_backup.specs.SoundLogs.{HasFewRows}
use Rattle.disk_backup.proofs.Logs.{one_log}
use Rattle.crash_moments.specs.Left.{NamedStates, Left}
use Rattle.crash_moments.specs.Base.{HasWritesOf, IsBaseOf}
use Rattle.crash_moments.proofs.Bases.{flushed_le}
use Rattle.crash_moments.specs.Watched.{Watched, IsFoundation, IsWatched, Between, by_name, cut, is_opening, now_of, others_then, was_opened}
use Rattle.crash_states.specs.Standing.{IsKept, states_of_tables}
use Rattle.crash_starting.specs.Laws.{AreUnseen}

-- ---- the base of a name

-- it is shut, and the logs have what is flushed of it at least
pub kept_one : (may : Pair → Type 0) (name : List ℕ) (s : HistoryState) (most : List Write) → IsBaseOf may name s → most ≡ s.writes → IsKept (take s.flushed s.writes) most s
kept_one may name s most is all =
    let le : s.flushed ≤ length s.writes = flushed_le may name s is in
    let long : length (take s.flushed s.writes) ≡ s.flushed = length-take-le s.flushed s.writes le in
    record {
      shut = ap (λ (t : HistoryState). t.live) is.is;
      flushed = omega (arith, long);
      shortest = ap (λ n. take n s.writes) (sym long);
      longest = all ∙ sym (take_all (length most) s.writes (omega (arith, ap (λ (ws : List Write). length ws) all)));
      handed = λ e. absurd (false≢true (sym (ap (λ (t : HistoryState). t.handed) is.is) ∙ e));
    }

-- the pair with the longest log says that it is short
short_one : (reads : ℕ → Bool) (base : NamedStates) (p : Pair) (name : List ℕ) (writes : List Write) → Left reads base p → HasWritesOf p.disk name writes → HasFewRows writes
short_one reads base p name writes l has k =
    let same : writes_of name l.sound.0 ≡ writes = ap (λ (records : List LogRecord). writes_of name records) (one_log p.disk l.sound.0 has.0 l.sound.1 has.1 l.sound.2 has.2).0 ∙ sym has.3 in
    subst (λ (ws : List Write). length (content (take k ws)).rows ≤ 2 ^ 40) same (l.sound.3 name k)

pub founded : (reads : ℕ → Bool) (may : Pair → Type 0) (base : NamedStates) (name : List ℕ) → ((p : Pair) → may p → Left reads base p) → IsBaseOf may name (base name) → IsFoundation (base name)
founded reads may base name lefts is =
    let s : HistoryState = base name in
    let taken : s.taken ≡ length s.writes = ap (λ (t : HistoryState). t.taken) is.is in
    let none : s.handed_in ≡ 0 = ap (λ (t : HistoryState). t.handed_in) is.is in
    record {
      before = ap (λ (t : HistoryState). t.before) is.is;
      handed_in = none;
      taken = omega (arith, taken, none);
      short = short_one reads base is.longest.0 name s.writes (lefts is.longest.0 is.longest.1) is.longest.2;
    }

-- ---- where nothing was seen

abbrev pub IsNew : NamedStates → Watched → Type 0
IsNew base w = (w.base ≡ base w.name) × (w.seen ≡ [])

each_new : (base : NamedStates) (ws : List Watched) → ((place : ℕ) (w : Watched) → slice_get ws place ≡ Some w → IsNew base w) → AllByRecursion (IsNew base) ws
each_new base [] each = tt
each_new base (w ∷ ws) each = (each zero w refl, each_new base ws (λ place. each (suc place)))

pub are_new : (base : NamedStates) (ws : List Watched) → AreUnseen base ws → AllByRecursion (IsNew base) ws
are_new base ws new = each_new base ws new.each

none_opened : (t : ℕ) (base : NamedStates) (ws : List Watched) → AllByRecursion (IsNew base) ws → was_opened t ws ≡ false
none_opened t base [] new = refl
none_opened t base (w ∷ ws) new = ap (λ (es : List Entry). list_any is_opening (cut t es) || was_opened t ws) new.0.1 ∙ none_opened t base ws new.1

base_named : (base others : NamedStates) (ws : List Watched) (name : List ℕ) → others name ≡ base name → AllByRecursion (IsNew base) ws → by_name now_of others ws name ≡ base name
base_named base others [] name same new = same
base_named base others (w ∷ ws) name same new = by (bytes_eq name w.name) refl (base_named base others ws name same new.1)
  where
    by : (here : Bool) → bytes_eq name w.name ≡ here → by_name now_of others ws name ≡ base name → (if here then now_of w else by_name now_of others ws name) ≡ base name
    by true e rest = ap (λ (es : List Entry). after true w.base es) new.0.1 ∙ new.0.0 ∙ ap base (sym ((bytes_eq-Decides name w.name).0 e))
    by false e rest = rest

-- each name stands as the base says
pub tables_same : (base : NamedStates) (ws : List Watched) (m : Meaning) → AllByRecursion (IsNew base) ws → (name : List ℕ) → states_of_tables base ws m name ≡ base name
tables_same base ws m new name =
    ap (λ (opened : Bool). by_name now_of (others_then opened base) ws name) (none_opened m.clock base ws new) ∙ base_named base (others_then false base) ws name refl new

-- each table is sound
pub all_watched : (clock : ℕ) (base : NamedStates) (ws : List Watched) → ((name : List ℕ) → IsFoundation (base name)) → AllByRecursion (IsNew base) ws → AllByRecursion (IsWatched clock) ws
all_watched clock base [] sound new = tt
all_watched clock base (w ∷ ws) sound new = (
  record {
    base = subst IsFoundation (sym new.0.0) (sound w.name);
    legal = subst (λ (es : List Entry). LegalFrom true w.base es) (sym new.0.1) tt;
    made = subst (λ (es : List Entry). Between 0 clock es) (sym new.0.1) tt;
  },
  all_watched clock base ws sound new.1,
)
