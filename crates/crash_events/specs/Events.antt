-- The events of a leaf's machine: when each may come, and what it changes.
use Rattle.std.specs.Prelude.{◌≡◌, ◌≢◌, ◌⊎◌, ℕ, ◌+◌, ◌-◌, ◌<◌, ◌≤◌, ◌==◌, Bool, true, false, ◌&&◌, ◌||◌, not, List, [], ◌∷◌, map, slice_get, slice_set, Some, None, Option, ⊤, if◌then◌else◌}
use Rattle.std.specs.List.{AllByRecursion, list_all}
use Rattle.leaf_history.specs.Calls.{Call}
use Rattle.leaf_history.specs.Calls as call
use Rattle.leaf_model.specs.Content.{content_from}
use Rattle.leaf_history.specs.History.{Entry, HistoryState, Allowed, after_entry, changed, write_count, first_writes}
use Rattle.crash_events.specs.Machine.{Machine, Tracked, Hand, Mode, Down, Finding, Scanning, Adopting, Opening, Up, Preparing, Copying, RegionIs, Closed, Whole, Either, Other}

-- the machine with another state of one table
abbrev pub with_state : Machine → ℕ → Tracked → HistoryState → Machine
with_state m t x s = record m { tables = slice_set m.tables t (record x { state = s }) }

-- the record of a table's writes that were not taken, if there are any
abbrev pub hand_of : ℕ → Tracked → Option Hand
hand_of t x = if write_count x.state == x.state.taken then None else Some (record { table = t; writes = write_count x.state - x.state.taken; laid = false; gate = false })

-- each table of the leaf is open
abbrev pub all_own_live : List Tracked → Bool
all_own_live ts = list_all (λ (x : Tracked). not x.own || x.state.live) ts

-- each table of the leaf was drained
abbrev pub all_own_handed : List Tracked → Bool
all_own_handed ts = list_all (λ (x : Tracked). not x.own || x.state.handed) ts

-- no table is open
abbrev pub AllShut : List Tracked → Type 0
AllShut ts = AllByRecursion (λ (x : Tracked). x.state.live ≡ false) ts

-- the disk is known to hold all that was accepted
abbrev pub IsSettled : Tracked → Type 0
IsSettled x = (x.state.flushed ≡ x.sure) × (x.sure ≡ write_count x.state)

-- the disk is known to hold all that was accepted of each table
abbrev pub AllSettled : List Tracked → Type 0
AllSettled ts = AllByRecursion IsSettled ts

-- a caller's call
abbrev pub IsCallersEntry : Entry → Type 0
IsCallersEntry e = 0 < e.caller

-- the number of a table's writes, in the hand's record, that may be on the disk already
abbrev pub gate_begun : Option Hand → ℕ → ℕ
gate_begun None t = 0
gate_begun (Some h) t = if (h.table == t) && h.gate then h.writes else 0

-- a crash leaves n writes of a table: those that are sure, or the hand's too if the write of its gate began
abbrev pub MayBe : Machine → ℕ → Tracked → ℕ → Type 0
MayBe m t x n = (n ≡ x.sure) ⊎ (n ≡ x.sure + gate_begun m.hand t)

-- the same tables from place t on, each with as many sure writes as a crash may leave
abbrev pub Resettled : Machine → ℕ → List Tracked → List Tracked → Type 0
Resettled m t [] [] = ⊤
Resettled m t [] (y ∷ ys) = ⊥
Resettled m t (x ∷ xs) [] = ⊥
Resettled m t (x ∷ xs) (y ∷ ys) = ((n : ℕ) × MayBe m t x n × (y ≡ record x { sure = n })) × Resettled m (t + 1) xs ys

-- what such a region may be after a crash; it may be closed, since the machine may have gone down
abbrev pub AfterCrash : RegionIs → RegionIs → Type 0
AfterCrash Closed Closed = ⊤
AfterCrash Whole Closed = ⊤
AfterCrash Whole Whole = ⊤
AfterCrash Either Closed = ⊤
AfterCrash Either Whole = ⊤
AfterCrash Other Closed = ⊤
AfterCrash Other Other = ⊤
AfterCrash _ _ = ⊥

-- what such a region may be to a leaf that reads it
abbrev pub AsRead : RegionIs → RegionIs → Type 0
AsRead Closed Closed = ⊤
AsRead Whole Whole = ⊤
AsRead Either Closed = ⊤
AsRead Either Whole = ⊤
AsRead Other Closed = ⊤
AsRead Other Other = ⊤
AsRead _ _ = ⊥

-- it is an image
abbrev pub is_whole : RegionIs → Bool
is_whole Whole = true
is_whole Closed = false
is_whole Either = false
is_whole Other = false

-- a table without its writes
abbrev pub emptied : Tracked → Tracked
emptied x = record x { state = record x.state { writes = []; taken = 0 } }

-- a name that the leaf does not have is forgotten once a table is opened
abbrev pub forgotten : Tracked → Tracked
forgotten x = if x.own then x else emptied x

-- a table is opened with its sure writes
abbrev pub open_call : Tracked → Call
open_call x = call.Open x.sure (content_from x.state.before (first_writes x.state x.sure))

-- no write of a name that the leaf does not have is on the disk
abbrev pub NoneElsewhere : List Tracked → Type 0
NoneElsewhere ts = AllByRecursion (λ (x : Tracked). x.own ≡ false → x.sure ≡ 0) ts

-- tables may be opened in this mode: the image was adopted, or a sync was made before the log was read
abbrev pub MayOpenFrom : Mode → Type 0
MayOpenFrom Adopting = ⊤
MayOpenFrom (Scanning made) = made ≡ true
MayOpenFrom Opening = ⊤
MayOpenFrom _ = ⊥

-- records are settled in this mode
abbrev pub MaySettle : Mode → Type 0
MaySettle Up = ⊤
MaySettle Preparing = ⊤
MaySettle _ = ⊥

-- there is something to kill in this mode
abbrev pub MayKill : Mode → Type 0
MayKill Up = ⊤
MayKill Preparing = ⊤
MayKill Copying = ⊤
MayKill _ = ⊥

-- in this mode a start goes on, and no table was opened yet
abbrev pub MayStop : Mode → Type 0
MayStop (Finding found) = ⊤
MayStop Adopting = ⊤
MayStop (Scanning made) = ⊤
MayStop _ = ⊥

-- One event. Each rule names when it comes and what it changes.
pub data Step (m m' : Machine) : Type 0 where
  -- a caller's turn
  turn : (t : ℕ) (x : Tracked) (e : Entry) → slice_get m.tables t ≡ Some x → x.own ≡ true → IsCallersEntry e
      → Allowed true x.state e.caller e.call e.reply → m' ≡ with_state m t x (after_entry true x.state e) → Step m m'
  -- the steward takes what was written since the last time: a record to settle, if there is any
  take_writes : (t : ℕ) (x : Tracked) → slice_get m.tables t ≡ Some x → x.own ≡ true → m.mode ≡ Up → m.hand ≡ None
      → m' ≡ record (with_state m t x (changed true x.state call.Take)) { hand = hand_of t x } → Step m m'
  -- a drain shuts a table, and takes its writes
  close_taking : (t : ℕ) (x : Tracked) → slice_get m.tables t ≡ Some x → x.own ≡ true → x.state.live ≡ true → m.mode ≡ Preparing → m.hand ≡ None
      → m' ≡ record (with_state m t x (changed true x.state call.Shut)) { hand = hand_of t x } → Step m m'
  -- a kill shuts a table, and so does a crash
  close : (t : ℕ) (x : Tracked) → slice_get m.tables t ≡ Some x → x.own ≡ true → x.state.live ≡ true → m.mode ≡ Down
      → m' ≡ with_state m t x (changed true x.state call.Shut) → Step m m'
  -- the record was written after a closed gate, and synced
  lay : (h : Hand) → m.hand ≡ Some h → h.laid ≡ false → MaySettle m.mode → m' ≡ record m { hand = Some (record h { laid = true }) } → Step m m'
  -- the write of the open gate begins
  gate : (h : Hand) → m.hand ≡ Some h → h.laid ≡ true → m' ≡ record m { hand = Some (record h { gate = true }) } → Step m m'
  -- the gate was written and synced: the record's writes are sure
  gate_sync : (h : Hand) (x : Tracked) → m.hand ≡ Some h → h.gate ≡ true → slice_get m.tables h.table ≡ Some x
      → m' ≡ record m { tables = slice_set m.tables h.table (record x { sure = x.sure + h.writes }); hand = None } → Step m m'
  -- the steward says that n writes are on the disk
  flushed : (t n : ℕ) (x : Tracked) → slice_get m.tables t ≡ Some x → x.own ≡ true → n ≤ x.sure → n ≤ x.state.taken
      → m' ≡ with_state m t x (changed true x.state (call.Flushed n)) → Step m m'
  -- a drain begins
  prepare : m.mode ≡ Up → m' ≡ record m { mode = Preparing } → Step m m'
  -- all tables are shut and on the disk: the region may be written
  plan : m.mode ≡ Preparing → AllShut m.tables → m.hand ≡ None → AllSettled m.tables → m' ≡ record m { mode = Copying } → Step m m'
  -- the first cut, the head, a column or the directory is written under a closed flag
  copy : m.mode ≡ Copying → m.region ≡ Closed → m' ≡ m → Step m m'
  -- the write of the open flag begins
  open_flag : m.mode ≡ Copying → m.region ≡ Closed → m' ≡ record m { region = Either } → Step m m'
  -- the write of the open flag succeeded
  flag_open : m.mode ≡ Copying → m.region ≡ Either → m' ≡ record m { region = Whole } → Step m m'
  -- the steward says that a table was drained; after the last one the leaf is Down
  done : (t : ℕ) (x : Tracked) → slice_get m.tables t ≡ Some x → x.own ≡ true → m.mode ≡ Copying → m.region ≡ Whole
      → m' ≡ (let n = with_state m t x (changed true x.state call.Done) in record n { mode = if all_own_handed n.tables then Down else Copying }) → Step m m'
  -- the leaf is killed: the hand stays as it is
  kill : MayKill m.mode → m' ≡ record m { mode = Down } → Step m m'
  -- a call of the region failed in a drain
  fail : m.mode ≡ Copying → m' ≡ record m { mode = Down } → Step m m'
  -- a start reads the head
  find : (r : RegionIs) → m.mode ≡ Down → AllShut m.tables → AsRead m.region r → m' ≡ record m { mode = Finding (is_whole r); region = r } → Step m m'
  -- the write that closes the flag of an image begins
  close_flag : (found : Bool) → m.mode ≡ Finding found → m.region ≡ Whole → m' ≡ record m { region = Either } → Step m m'
  -- the flag was closed
  flag_closed : (found : Bool) → m.mode ≡ Finding found → m.region ≢ Closed → m' ≡ record m { region = Closed } → Step m m'
  -- under a closed flag the start goes its way: over the image that was found, or over the log
  way : (found : Bool) → m.mode ≡ Finding found → m.region ≡ Closed → m' ≡ record m { mode = if found then Adopting else Scanning false } → Step m m'
  -- a column is read, or the region cut at the directory
  adopt : m.mode ≡ Adopting → m' ≡ m → Step m m'
  -- the first gate of an empty disk is written
  first_gate : (made : Bool) → m.mode ≡ Scanning made → m' ≡ m → Step m m'
  -- a sync: what reads give is what every crash leaves
  barrier : (made : Bool) (ts : List Tracked) → m.mode ≡ Scanning made → Resettled m 0 m.tables ts → m' ≡ record m { tables = ts; hand = None; mode = Scanning true } → Step m m'
  -- a table is opened; after the last one the leaf is Up
  open_table : (t : ℕ) (x : Tracked) → slice_get m.tables t ≡ Some x → x.own ≡ true → MayOpenFrom m.mode → x.state.live ≡ false → NoneElsewhere m.tables
      → m' ≡ (let n = with_state m t x (changed true x.state (open_call x)) in
      record n { tables = map forgotten n.tables; mode = if all_own_live n.tables then Up else Opening }) → Step m m'
  -- the start is given up
  stop : MayStop m.mode → m' ≡ record m { mode = Down } → Step m m'
  -- a crash leaves a region and a log that the state allows
  crash : (r : RegionIs) (ts : List Tracked) → AfterCrash m.region r → Resettled m 0 m.tables ts
      → m' ≡ record { tables = ts; hand = None; mode = Down; region = r } → Step m m'

-- a run: some events, one after another
pub data Reaches (m : Machine) : Machine → Type 0 where
  here : Reaches m m
  next : {n p : Machine} → Reaches m n → Step n p → Reaches m p
