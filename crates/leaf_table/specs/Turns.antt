-- The history that a list of turns is, and what each turn takes in and gives out.
use Rattle.std.specs.Prelude.{◌≡◌, ◌⊎◌, ℕ, ◌+◌, ◌<◌, ◌≤◌, ◌^◌, Bool, true, false, List, [], ◌∷◌, length, map, Option, Some, None, ⊤}
use Rattle.std.specs.List.{AllByRecursion}
use Rattle.turnstile.specs.declared.object.TurnEntry as turnstile
use Rattle.turnstile.specs.Seats.{Site}
use Rattle.row_model.specs.declared.rows.Row.{Row}
use Rattle.leaf_model.specs.declared.queries.Query.{Query}
use Rattle.leaf_model.specs.declared.writes.Write.{Write}
use Rattle.row_model.specs.Values.{IsRow, IsTime}
use Rattle.leaf_history.specs.Calls.{Call}
use Rattle.leaf_history.specs.Calls as call
use Rattle.leaf_history.specs.Replies.{EntryReply}
use Rattle.leaf_history.specs.Replies as reply
use Rattle.leaf_history.specs.History.{Entry, HistoryState, base_of, no_base, LegalFrom, OpenAllowed, after, after_entry, first_writes, contents_held, untaken, write_count}
use Rattle.row_records.specs.Records.{LogRecord, new_record}
use Rattle.table_state.specs.Tables.{Table, IsHeld, added_count, columns_most}
use Rattle.group_table.specs.Joined.{IsWithin}
use Rattle.leaf_table.specs.declared.base.TableBase.{TableBase}
use Rattle.leaf_table.specs.declared.base.Origin.{Origin}
use Rattle.leaf_table.specs.declared.turns.Turn.{Turn}
use Rattle.leaf_table.specs.declared.turns.Turn.TheVariants as turn
use Rattle.leaf_table.specs.declared.turns.TurnAnswer.{TurnAnswer}
use Rattle.leaf_table.specs.declared.turns.TurnAnswer.TheVariants as answer
use Rattle.leaf_table.specs.declared.value.LeafTable.{LeafTable}

-- a shared table: the indices of its leaf and of itself, and its turnstile, which fixes name and base
pub record Shared : Type 0 where
  pub leaf : ℕ
  pub table : ℕ
  pub site : Site Origin

-- turns, each with its answer
abbrev pub TurnsTaken : Type 0
TurnsTaken = List (turnstile.TurnEntry Turn TurnAnswer)

-- a table is founded if it has a base
abbrev pub is_founded : Option TableBase → Bool
is_founded (Some b) = true
is_founded None = false

-- the state that the table begins with
abbrev pub start_of : Option TableBase → HistoryState
start_of (Some b) = base_of b.writes b.flushed b.spare
start_of None = no_base

-- the call of a turn
abbrev pub call_of : Turn → Call
call_of (turn.Add rows) = call.Add rows
call_of (turn.AddCopy rows copy) = call.Add rows.value
call_of (turn.Expire horizon) = call.Expire horizon
call_of (turn.Keep n) = call.Keep n
call_of (turn.Ask query copy) = call.Ask query.value
call_of turn.Take = call.Take
call_of (turn.Flushed n) = call.Flushed n
call_of turn.Shut = call.Shut
call_of turn.Done = call.Done
call_of (turn.Open n table) = call.Open n table.contents

-- the turn adds these rows, and has a copy of them or none
abbrev pub IsAddOf : List Row → Turn → Type 0
IsAddOf rows (turn.AddCopy of copy) = (of.value ≡ rows) × ((copy ≡ None) ⊎ (copy ≡ Some rows))
IsAddOf rows _ = ⊥

-- the turn asks this query, and has a copy of it or none
abbrev pub IsAsk : Query → Turn → Type 0
IsAsk q (turn.Ask query copy) = (query.value ≡ q) × ((copy ≡ None) ⊎ (copy ≡ Some q))
IsAsk q (turn.Add rows) = ⊥
IsAsk q (turn.AddCopy rows copy) = ⊥
IsAsk q (turn.Expire horizon) = ⊥
IsAsk q (turn.Keep n) = ⊥
IsAsk q turn.Take = ⊥
IsAsk q (turn.Flushed n) = ⊥
IsAsk q turn.Shut = ⊥
IsAsk q turn.Done = ⊥
IsAsk q (turn.Open n table) = ⊥

-- the reply in an answer
abbrev pub reply_of : TurnAnswer → EntryReply
reply_of (answer.Added kept late) = reply.Added kept late
reply_of (answer.Removed rows) = reply.Removed rows
reply_of (answer.Groups gs) = reply.Groups gs
reply_of answer.Shut = reply.Shut
reply_of answer.Full = reply.Full
reply_of answer.NoMemory = reply.NoMemory
reply_of (answer.Took writes pending) = reply.Counted writes
reply_of (answer.Closed table) = reply.Counted table.writes
reply_of answer.Noted = reply.Noted

-- the entry of a turn
abbrev pub told : turnstile.TurnEntry Turn TurnAnswer → Entry
told e = record { caller = e.by; call = call_of e.call; reply = reply_of e.reply; clock = e.clock }

-- the history of these turns
abbrev pub history : TurnsTaken → List Entry
history h = map told h

-- the record of a table's writes; None without writes
abbrev pub record_for : List ℕ → List Write → Option LogRecord
record_for name [] = None
record_for name (w ∷ ws) = Some (new_record name (w ∷ ws))

-- the record of the writes that were not taken
abbrev pub untaken_record : List ℕ → HistoryState → Option LogRecord
untaken_record name s = record_for name (untaken s)

-- a founded table has at most one column for each row and each cell that its writes add, and the spare ones
abbrev pub HasFewColumns : Bool → ℕ → List Write → Table → Type 0
HasFewColumns founded spare writes table = founded ≡ true → columns_most table.store ≤ spare + added_count writes

-- what a turn gives out: a take the record of the writes that were not taken, a shut the table with this record
abbrev pub HandsOut : List ℕ → Bool → HistoryState → Turn → TurnAnswer → Type 0
HandsOut name founded s turn.Take (answer.Took writes pending) = pending ≡ untaken_record name s
HandsOut name founded s turn.Take _ = ⊥
HandsOut name founded s turn.Shut (answer.Closed table) = (table.contents ≡ contents_held s) × (table.pending ≡ untaken_record name s) × HasFewColumns founded s.spare s.writes table
HandsOut name founded s turn.Shut _ = ⊥
HandsOut name founded s _ _ = ⊤

-- groups in a reply are those of rows that a table may hold, and fit 2^40 rows
abbrev pub OverFew : HistoryState → EntryReply → Type 0
OverFew s (reply.Groups gs) = IsHeld (contents_held s) × AllByRecursion (IsWithin (2 ^ 40)) gs
OverFew s _ = ⊤

abbrev pub Hands : List ℕ → Bool → HistoryState → Turn → TurnAnswer → Type 0
Hands name founded s t a = HandsOut name founded s t a × OverFew s (reply_of a)

abbrev pub HandsFrom : List ℕ → Bool → HistoryState → TurnsTaken → Type 0
HandsFrom name founded s [] = ⊤
HandsFrom name founded s (e ∷ es) = Hands name founded s e.call e.reply × HandsFrom name founded (after_entry founded s (told e)) es

-- the turns are a legal history, and each gives out what it owes
pub record LegalTurns (name : List ℕ) (base : Option TableBase) (h : TurnsTaken) : Type 0 where
  pub legal : LegalFrom (is_founded base) (start_of base) (history h)
  pub hands : HandsFrom name (is_founded base) (start_of base) h

-- the state of the table after these turns
abbrev pub state_after : Option TableBase → TurnsTaken → HistoryState
state_after base h = after (is_founded base) (start_of base) (history h)

-- the value behind the turnstile agrees with the state: an open table has its contents, and the record of the writes
-- that were not taken
pub record IsTableOf (name : List ℕ) (founded : Bool) (s : HistoryState) (n : ℕ) (v : LeafTable) : Type 0 where
  pub named : v.name ≡ name
  pub short : length name ≤ 255
  pub live : v.live ≡ s.live
  pub contents : s.live ≡ true → v.table.contents ≡ contents_held s
  pub writes : s.live ≡ true → v.table.writes ≡ write_count s
  pub pending : s.live ≡ true → v.table.pending ≡ untaken_record name s
  pub few : s.live ≡ true → v.table.writes < 2 ^ 63 + n
  pub columns : s.live ≡ true → HasFewColumns founded s.spare s.writes v.table

abbrev pub StandsFor : List ℕ → Option TableBase → TurnsTaken → LeafTable → Type 0
StandsFor name base h v = IsTableOf name (is_founded base) (state_after base h) (length h) v

-- a table that may be opened: nothing is pending, and it had n writes; if founded, these add at least a row or a cell
-- for each column that is not spare
pub record MayHandIn (founded : Bool) (s : HistoryState) (n : ℕ) (table : Table) : Type 0 where
  pub pending : table.pending ≡ None
  pub writes : table.writes ≡ n
  pub small : n < 2 ^ 63
  pub columns : HasFewColumns founded s.spare (first_writes s n) table
  pub allowed : OpenAllowed founded s n table.contents

-- who may take which turn in this state: the steward shuts an open table, and opens a shut one
abbrev pub MayNow : Bool → HistoryState → ℕ → Turn → Type 0
MayNow founded s by (turn.Add rows) = (0 < by) × AllByRecursion IsRow rows
MayNow founded s by (turn.AddCopy rows copy) = (0 < by) × AllByRecursion IsRow rows.value × ((copy ≡ None) ⊎ (copy ≡ Some rows.value))
MayNow founded s by (turn.Expire horizon) = (0 < by) × IsTime horizon
MayNow founded s by (turn.Keep n) = 0 < by
MayNow founded s by (turn.Ask query copy) = (0 < by) × ((copy ≡ None) ⊎ (copy ≡ Some query.value))
MayNow founded s by turn.Take = (by ≡ 0) × (s.live ≡ true)
MayNow founded s by (turn.Flushed n) = (by ≡ 0) × (n ≤ s.taken)
MayNow founded s by turn.Shut = (by ≡ 0) × (s.live ≡ true)
MayNow founded s by turn.Done = (by ≡ 0) × (s.live ≡ false)
MayNow founded s by (turn.Open n table) = (by ≡ 0) × (s.live ≡ false) × MayHandIn founded s n table

abbrev pub MayTurn : Option TableBase → TurnsTaken → ℕ → Turn → Type 0
MayTurn base h by t = MayNow (is_founded base) (state_after base h) by t
