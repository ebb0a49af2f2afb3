-- What the steward knows after a call of its own.
use Rattle.std.specs.Prelude.{◌≡◌, ℕ, ◌<◌, Option}
use Rattle.leaf_history.specs.Calls.{Call}
use Rattle.leaf_history.specs.Replies.{EntryReply}
use Rattle.leaf_history.specs.History.{HistoryState, after_entry}
use Rattle.leaf_history.specs.Laws.{CallersKeep}
use Rattle.leaf_table.specs.declared.base.TableBase.{TableBase}
use Rattle.leaf_table.specs.Turns.{is_founded}
use Rattle.leaf_table.specs.Calls.{SeatView, IsSteward, Made, entry_seen, state_seen, state_before}

-- up to its entry, callers kept what it knew; then its own entry changed the state
pub record Knew (base : Option TableBase) (clock : ℕ) (v : SeatView) (c : Call) (r : EntryReply) (w : SeatView) (s : HistoryState) : Type 0 where
  pub others : IsSteward v → 0 < v.share → CallersKeep (state_seen base v) s
  pub now : state_seen base w ≡ after_entry (is_founded base) s (entry_seen v.id clock c r)

-- this holds of each call of the steward
abbrev pub StewardKnows : Type 0
StewardKnows = (base : Option TableBase) (clock : ℕ) (v w : SeatView) (c : Call) (r : EntryReply) → (m : Made base clock v c r w) → Knew base clock v c r w (state_before base v m.between)
