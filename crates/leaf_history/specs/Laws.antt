-- Laws of histories, as statements.
use Rattle.std.specs.Prelude.{◌≡◌, ◌<◌, ◌≤◌, Bool, false, List, ◌++◌}
use Rattle.std.specs.List.{AllByRecursion}
use Rattle.leaf_model.specs.declared.writes.Write.{Write}
use Rattle.leaf_history.specs.History.{HistoryState, Entry, LegalFrom, Allowed, after, after_entry, write_count}

-- each prefix of a legal history is legal
abbrev pub FrontsAreLegal : Type 0
FrontsAreLegal = (founded : Bool) (s : HistoryState) (xs ys : List Entry) → LegalFrom founded s (xs ++ ys) → LegalFrom founded s xs

-- a legal history and what is legal after it are one legal history
abbrev pub HistoriesGoOn : Type 0
HistoriesGoOn = (founded : Bool) (s : HistoryState) (xs ys : List Entry) → LegalFrom founded s xs → LegalFrom founded (after founded s xs) ys → LegalFrom founded s (xs ++ ys)

-- on a shut table a caller's entry changes nothing
abbrev pub ShutStaysShut : Type 0
ShutStaysShut = (founded : Bool) (s : HistoryState) (e : Entry) → s.live ≡ false → 0 < e.caller → Allowed founded s e.caller e.call e.reply → after_entry founded s e ≡ s

-- these entries are callers'
abbrev pub AreCallers : List Entry → Type 0
AreCallers es = AllByRecursion (λ (e : Entry). 0 < e.caller) es

-- callers append writes to a table that is open, and change nothing of one that is shut
pub record CallersKeep (s now : HistoryState) : Type 0 where
  pub live : now.live ≡ s.live
  pub taken : now.taken ≡ s.taken
  pub flushed : now.flushed ≡ s.flushed
  pub handed : now.handed ≡ s.handed
  pub before : now.before ≡ s.before
  pub handed_in : now.handed_in ≡ s.handed_in
  pub appends : (further : List Write) × (now.writes ≡ s.writes ++ further)
  pub shut : s.live ≡ false → now ≡ s

abbrev pub OthersKeep : Type 0
OthersKeep = (founded : Bool) (s : HistoryState) (es : List Entry) → LegalFrom founded s es → AreCallers es → CallersKeep s (after founded s es)

-- no more is taken than was accepted, and what was handed in is on the disk
pub record HasSoundCounts (s : HistoryState) : Type 0 where
  pub taken : s.taken ≤ write_count s
  pub handed_in : s.handed_in ≤ s.flushed

abbrev pub CountsStay : Type 0
CountsStay = (founded : Bool) (s : HistoryState) (es : List Entry) → LegalFrom founded s es → HasSoundCounts s → HasSoundCounts (after founded s es)

-- the state after two histories in a row is the state after the second from the state after the first
abbrev pub OneState : Type 0
OneState = (founded : Bool) (s : HistoryState) (xs ys : List Entry) → after founded s (xs ++ ys) ≡ after founded (after founded s xs) ys
