-- What a call on a shared table needs of its seat, and what it does to it.
use Rattle.std.specs.Prelude.{◌≡◌, ◌⊎◌, ℕ, ◌+◌, ◌<◌, ◌≤◌, ◌^◌, true, false, List, [], ◌∷◌, ◌++◌, length, Option, Result, Ok, Err, ⊤}
use Rattle.std.specs.List.{AllByRecursion}
use Rattle.turnstile.specs.Seats.{SeatStanding, AreIds, Owns}
use Rattle.leaf_history.specs.Calls.{Call}
use Rattle.leaf_history.specs.Calls as call
use Rattle.leaf_history.specs.Replies.{EntryReply}
use Rattle.leaf_history.specs.Replies as reply
use Rattle.leaf_history.specs.History.{Entry, HistoryState, LegalFrom, Allowed, after, contents_held}
use Rattle.table_state.specs.Tables.{Table}
use Rattle.leaf_table.specs.declared.base.TableBase.{TableBase}
use Rattle.leaf_table.specs.declared.base.Origin.{Origin}
use Rattle.leaf_table.specs.declared.turns.Turn.{Turn}
use Rattle.leaf_table.specs.declared.turns.TurnAnswer.{TurnAnswer}
use Rattle.leaf_table.specs.declared.replies.Reply as shared
use Rattle.leaf_table.specs.declared.replies.Reply.TheVariants as told
use Rattle.leaf_table.specs.declared.replies.Taken.{Taken}
use Rattle.leaf_table.specs.declared.replies.Taken.TheVariants as taken
use Rattle.leaf_table.specs.declared.replies.ClosedTable.{ClosedTable}
use Rattle.leaf_table.specs.Turns.{Shared, is_founded, start_of, call_of, reply_of, history, HandsOut, HasFewColumns, OverFew, untaken_record}

-- the base of the table, if it was founded
abbrev pub base_seen : Shared → Option TableBase
base_seen t = t.site.base.base

-- the name of the table
abbrev pub name_of : Shared → List ℕ
name_of t = t.site.base.name.value

-- a seat at a table, as contracts see it
abbrev pub SeatView : Type 0
SeatView = SeatStanding Origin Turn TurnAnswer

-- an entry with these parts
abbrev pub entry_seen : ℕ → ℕ → Call → EntryReply → Entry
entry_seen caller clock c r = record { caller = caller; call = c; reply = r; clock = clock }

-- the state of the table after a history
abbrev pub state_of : Option TableBase → List Entry → HistoryState
state_of base h = after (is_founded base) (start_of base) h

-- the seat has seen 2^62 entries or more
abbrev pub IsWorn : SeatView → Type 0
IsWorn v = 2 ^ 62 ≤ length v.seen

-- the seat has seen fewer than 2^62 entries
abbrev pub IsFresh : SeatView → Type 0
IsFresh v = length v.seen < 2 ^ 62

-- the history that the seat has seen
abbrev pub seen_of : SeatView → List Entry
seen_of v = history v.seen

-- the state of the table after what the seat has seen
abbrev pub state_seen : Option TableBase → SeatView → HistoryState
state_seen base v = state_of base (seen_of v)

-- entries that other seats made
abbrev pub AreOthers : SeatView → List Entry → Type 0
AreOthers v es = AllByRecursion (λ (e : Entry). ¬ Owns v e.caller) es

-- each entry has an id of the turnstile
abbrev pub HaveIds : List Entry → Type 0
HaveIds es = AllByRecursion (λ (e : Entry). e.caller < 65537) es

-- the seat owns each id but the steward's
abbrev pub OwnsTheRest : SeatView → Type 0
OwnsTheRest v = (x : ℕ) → 0 < x → x < 65537 → Owns v x

-- each entry is the seat's own or the steward's
abbrev pub AreOwnOrStewards : SeatView → List Entry → Type 0
AreOwnOrStewards v es = AllByRecursion (λ (e : Entry). Owns v e.caller ⊎ (e.caller ≡ 0)) es

-- who made the entries that a seat has seen: a seat that owns each id but the steward's has seen no third party's
pub record Makers (v : SeatView) : Type 0 where
  pub ids : HaveIds (seen_of v)
  pub own : OwnsTheRest v → AreOwnOrStewards v (seen_of v)

-- this holds of each seat that has seen only entries with ids of the turnstile; all have
abbrev pub MakersKnown : Type 0
MakersKnown = (v : SeatView) → AreIds v.seen → Makers v

-- the state just before the call's own entry; `between` are the entries of others
abbrev pub state_before : Option TableBase → SeatView → List Entry → HistoryState
state_before base v between = state_of base (seen_of v ++ between)

-- One entry was made, with this call and this reply. Others may have made entries before it.
pub record Made (base : Option TableBase) (clock : ℕ) (v : SeatView) (c : Call) (r : EntryReply) (w : SeatView) : Type 0 where
  pub between : List Entry
  pub seen : seen_of w ≡ (seen_of v ++ between) ++ entry_seen v.id clock c r ∷ []
  pub others : AreOthers v between
  pub legal : LegalFrom (is_founded base) (start_of base) (seen_of w)
  pub allowed : Allowed (is_founded base) (state_before base v between) v.id c r
  pub few : OverFew (state_before base v between) r
  -- the seat keeps its ids
  pub place : w ≡ record v { seen = w.seen; room = w.room }
  -- only an entry after the 2^62nd takes room
  pub room : (w.room ≤ v.room) × (v.room ≤ w.room + 1) × (length w.seen ≤ 2 ^ 62 → w.room ≡ v.room)

-- the same of a turn, and of what it gives out
abbrev pub MadeTurn : List ℕ → Option TableBase → ℕ → SeatView → Turn → TurnAnswer → SeatView → Type 0
MadeTurn name base clock v t a w = (m : Made base clock v (call_of t) (reply_of a) w) × HandsOut name (is_founded base) (state_before base v m.between) t a

-- a callers' seat
abbrev pub IsCaller : SeatView → Type 0
IsCaller v = 0 < v.id

-- the steward's seat with room for one more entry: it made fewer than 1,024 after the 2^62nd
abbrev pub IsSteward : SeatView → Type 0
IsSteward v = (v.id ≡ 0) × (v.share ≤ v.room)

-- the seat keeps its ids, and loses room for at most one entry
pub record SameSeat (v w : SeatView) : Type 0 where
  pub id : w.id ≡ v.id
  pub share : w.share ≡ v.share
  pub room : v.room ≤ w.room + 1

-- after what the seat has seen, the table is open, or shut
abbrev pub SeesOpen : Shared → SeatView → Type 0
SeesOpen t v = (state_seen (base_seen t) v).live ≡ true

abbrev pub SeesShut : Shared → SeatView → Type 0
SeesShut t v = (state_seen (base_seen t) v).live ≡ false

-- the reply of an entry is told with the number n
abbrev pub IsToldAs : ℕ → EntryReply → shared.Reply → Type 0
IsToldAs n (reply.Added kept late) x = x ≡ told.Added n kept late
IsToldAs n (reply.Groups gs) x = x ≡ told.Groups n gs
IsToldAs n reply.Shut x = x ≡ told.Shut n
IsToldAs n reply.Full x = x ≡ told.Full n
IsToldAs n reply.NoMemory x = x ≡ told.NoMemory n
IsToldAs n (reply.Removed k) x = x ≡ told.Removed n k
IsToldAs n (reply.Counted k) x = ⊥
IsToldAs n reply.Noted x = ⊥

-- a reply that a caller may get
abbrev pub IsCallersReply : EntryReply → Type 0
IsCallersReply (reply.Counted k) = ⊥
IsCallersReply reply.Noted = ⊥
IsCallersReply _ = ⊤

-- an entry was made, and its reply is told with its number
abbrev pub Replied : Option TableBase → SeatView → Call → shared.Reply → SeatView → Type 0
Replied base v c x w = IsFresh v × (r : EntryReply) × Made base 0 v c r w × IsToldAs (length w.seen) r x

-- a caller's call: an entry with the reply that is told; or the seat is worn, and nothing changed
abbrev pub Answered : Option TableBase → SeatView → Call → shared.Reply → SeatView → Type 0
Answered base v c told.Worn w = IsWorn v × (w ≡ v)
Answered base v c (told.Added number kept late) w = Replied base v c (told.Added number kept late) w
Answered base v c (told.Removed number rows) w = Replied base v c (told.Removed number rows) w
Answered base v c (told.Groups number gs) w = Replied base v c (told.Groups number gs) w
Answered base v c (told.Shut number) w = Replied base v c (told.Shut number) w
Answered base v c (told.Full number) w = Replied base v c (told.Full number) w
Answered base v c (told.NoMemory number) w = Replied base v c (told.NoMemory number) w

-- the steward took the record of the writes that were not taken; or its seat is worn, and nothing changed
abbrev pub TookBy : List ℕ → Option TableBase → ℕ → SeatView → Taken → SeatView → Type 0
TookBy name base clock v (taken.Took number writes pending) w = IsFresh v × (number ≡ length w.seen) × (m : Made base clock v call.Take (reply.Counted writes) w) × (pending ≡ untaken_record name (state_before base v m.between))
TookBy name base clock v taken.Worn w = IsWorn v × (w ≡ v)

-- the steward shut the table, and has its content
pub record ClosedBy (name : List ℕ) (base : Option TableBase) (clock : ℕ) (v : SeatView) (x : ClosedTable) (w : SeatView) : Type 0 where
  pub number : x.number ≡ length w.seen
  pub made : Made base clock v call.Shut (reply.Counted x.writes) w
  pub writes : x.table.writes ≡ x.writes
  pub contents : x.table.contents ≡ contents_held (state_before base v made.between)
  pub pending : x.table.pending ≡ untaken_record name (state_before base v made.between)
  pub columns : HasFewColumns (is_founded base) (state_before base v made.between).spare (state_before base v made.between).writes x.table

-- the table was opened with this content; or the seat is worn, and the content was given back
abbrev pub ReopenedBy : Option TableBase → ℕ → SeatView → ℕ → Table → Result ℕ Table → SeatView → Type 0
ReopenedBy base clock v writes table (Ok n) w = IsFresh v × (n ≡ length w.seen) × Made base clock v (call.Open writes table.contents) reply.Noted w
ReopenedBy base clock v writes table (Err t) w = IsWorn v × (t ≡ table) × (w ≡ v)

-- after the take the steward has taken as many writes as it was told
abbrev pub HasTaken : Shared → Taken → SeatView → Type 0
HasTaken t (taken.Took number writes pending) w = (state_seen (base_seen t) w).taken ≡ writes
HasTaken t taken.Worn w = ⊤
