-- The tables of a leaf as its steward has seen them, and the state of each at each moment of the berth's clock.
use Rattle.std.specs.Prelude.{◌≡◌, ℕ, ◌≤◌, nat_le, Bool, true, false, ◌&&◌, ◌==◌, List, [], ◌∷◌, bytes_eq, if◌then◌else◌, ⊤}
use Rattle.std.specs.List.{AllByRecursion, list_any}
use Rattle.leaf_model.specs.Content.{nothing}
use Rattle.leaf_history.specs.Calls.{Call}
use Rattle.leaf_history.specs.Calls as call
use Rattle.leaf_history.specs.History.{Entry, HistoryState, LegalFrom, after, no_base, write_count}
use Rattle.disk_backup.specs.SoundLogs.{HasFewRows}
use Rattle.crash_moments.specs.Left.{NamedStates}

-- a table: its name, its base, and the prefix of its history that the steward has seen
pub record Watched : Type 0 where
  pub name : List ℕ
  pub base : HistoryState
  pub seen : List Entry

-- its state after that prefix
abbrev pub now_of : Watched → HistoryState
now_of w = after true w.base w.seen

-- ---- its state at a moment

-- the steward made the entry, by this moment
abbrev pub is_made : ℕ → Entry → Bool
is_made t e = (e.caller == 0) && nat_le e.clock t

-- the history up to the last entry that the steward made by this moment; empty if there is none
abbrev pub cut : ℕ → List Entry → List Entry
cut t [] = []
cut t (e ∷ es) = if list_any (is_made t) (e ∷ es) then e ∷ cut t es else []

-- the state of the table at this moment
abbrev pub state_then : ℕ → Watched → HistoryState
state_then t w = after true w.base (cut t w.seen)

-- the table was opened
abbrev pub is_open_call : Call → Bool
is_open_call (call.Open n contents) = true
is_open_call _ = false

abbrev pub is_opening : Entry → Bool
is_opening e = is_open_call e.call

-- some table of the leaf was opened by this moment
abbrev pub was_opened : ℕ → List Watched → Bool
was_opened t ws = list_any (λ (w : Watched). list_any is_opening (cut t w.seen)) ws

-- the states of names that the leaf does not have: these, until the leaf has opened a table, and then no writes
abbrev pub others_then : Bool → NamedStates → NamedStates
others_then true others name = no_base
others_then false others name = others name

-- the state of each name, by the states of the leaf's own tables
abbrev pub by_name : (Watched → HistoryState) → NamedStates → List Watched → NamedStates
by_name state others [] name = others name
by_name state others (w ∷ ws) name = if bytes_eq name w.name then state w else by_name state others ws name

-- the state of each name at a moment
abbrev pub tables_then : NamedStates → ℕ → List Watched → NamedStates
tables_then others t ws = by_name (state_then t) (others_then (was_opened t ws) others) ws

-- whether the name is one of the leaf's
abbrev pub is_watched : List Watched → List ℕ → Bool
is_watched ws name = list_any (λ (w : Watched). bytes_eq name w.name) ws

-- ---- what holds of every table that is watched

-- the steward's entries lie between two moments
abbrev pub Between : ℕ → ℕ → List Entry → Type 0
Between from to = AllByRecursion (λ (e : Entry). e.caller ≡ 0 → (from ≤ e.clock) × (e.clock ≤ to))

-- invariant of a table with a known base: it was handed in nothing, no more was taken than it has, and it has at most
-- 2^40 rows after each prefix of its writes
pub record IsFoundation (s : HistoryState) : Type 0 where
  pub before : s.before ≡ nothing
  pub handed_in : s.handed_in ≡ 0
  pub taken : s.taken ≤ write_count s
  pub short : HasFewRows s.writes

-- the table's history is legal, and the steward made no entry later than now
pub record IsWatched (clock : ℕ) (w : Watched) : Type 0 where
  pub base : IsFoundation w.base
  pub legal : LegalFrom true w.base w.seen
  pub made : Between 0 clock w.seen

-- the names are distinct
abbrev pub AreApart : List Watched → Type 0
AreApart [] = ⊤
AreApart (w ∷ ws) = (is_watched ws w.name ≡ false) × AreApart ws

pub record AreWatched (clock : ℕ) (ws : List Watched) : Type 0 where
  pub each : AllByRecursion (IsWatched clock) ws
  pub apart : AreApart ws
