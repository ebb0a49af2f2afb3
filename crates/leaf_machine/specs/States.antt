-- The states of a leaf, and what holds in each.
use Rattle.std.specs.Prelude.{◌≡◌, ◌≢◌, ◌⊎◌, ℕ, suc, ◌+◌, ◌-◌, ◌<◌, ◌≤◌, Bool, false, List, [], ◌∷◌, length, slice_get, Option, Some, IfSome, IsSome, IsTrue, if◌then◌else◌}
use Rattle.leaf_model.specs.declared.writes.Write.{Write}
use Rattle.row_records.specs.Records.{LogRecord}
use Rattle.berth_face.specs.Berth.{Meaning}
use Rattle.leaf_history.specs.History.{HistoryState, contents_held, write_count}
use Rattle.table_state.specs.Tables.{Table, added_count, least_columns}
use Rattle.drain_copy.specs.declared.step.Next.TheVariants.{Nothing}
use Rattle.drain_copy.specs.Draining.{DrainState}
use Rattle.leaf_table.specs.Turns.{Shared}
use Rattle.leaf_table.specs.Calls.{SeatView, base_seen, state_seen, SeesOpen, SeesShut}
use Rattle.crash_moments.specs.Left.{NamedStates}
use Rattle.crash_moments.specs.Told.{Told}
use Rattle.crash_moments.specs.Watched.{IsFoundation}
use Rattle.crash_states.specs.Standing.{Runs, Rests, Copies}
use Rattle.leaf_steward.specs.Seated.{Seated, AtEach, AtPlace, AreFounded, Spares, watched_by}
use Rattle.leaf_steward.specs.Owing.{Owing, IsOwed}

-- a leaf that serves its tables
pub record Serving : Type 0 where
  pub seated : Seated
  pub owing : Owing

-- A leaf that shuts its tables. The first ones are shut, with these contents. `waits`: the last of these is not treated
-- yet, as its record is owed or its tail is not sealed.
pub record Shutting : Type 0 where
  pub serving : Serving
  pub closed : List Table
  pub waits : Bool

-- a leaf that copies its tables
pub record Copying : Type 0 where
  pub seated : Seated
  pub drain : DrainState

-- the number of tables that are shut, whole in the log and sealed
abbrev pub treated : Shutting → ℕ
treated x = if x.waits then length x.closed - 1 else length x.closed

-- ---- bounds on the columns of tables

-- the least number of columns of all tables, as their seats have last seen them
abbrev pub columns_seen : List Shared → List SeatView → ℕ
columns_seen [] vs = 0
columns_seen (t ∷ ts) [] = 0
columns_seen (t ∷ ts) (v ∷ vs) = least_columns (contents_held (state_seen (base_seen t) v)).rows + columns_seen ts vs

-- the number of rows and cells that the writes of all tables add, and of spare columns
abbrev pub columns_added : List Shared → List SeatView → ℕ
columns_added [] vs = 0
columns_added (t ∷ ts) [] = 0
columns_added (t ∷ ts) (v ∷ vs) = (state_seen (base_seen t) v).spare + added_count (state_seen (base_seen t) v).writes + columns_added ts vs

-- the same, and the number of these writes
abbrev pub bulk_added : List Shared → List SeatView → ℕ
bulk_added [] vs = 0
bulk_added (t ∷ ts) [] = 0
bulk_added (t ∷ ts) (v ∷ vs) = length (state_seen (base_seen t) v).writes + (state_seen (base_seen t) v).spare + added_count (state_seen (base_seen t) v).writes + bulk_added ts vs

-- ---- what region and disk hold of founded tables

abbrev pub DownStands : Seated → Meaning → Type 0
DownStands x m = AreFounded x → IsTrue m.tells × ((others : NamedStates) × (least : List ℕ → List Write) × (next : Option LogRecord) × Rests (watched_by x) others least next m)

abbrev pub UpStands : Serving → Meaning → Type 0
UpStands x m = AreFounded x.seated → IsTrue m.tells × ((writes : List ℕ → List Write) × Runs (watched_by x.seated) x.owing.owner x.owing.log writes m)

abbrev pub CopyStands : Copying → Meaning → Type 0
CopyStands x m = AreFounded x.seated → IsTrue m.tells × ((writes : List ℕ → List Write) × Copies (watched_by x.seated) x.drain writes m)

-- ---- invariants of the states

-- at rest: each table is shut
pub record IsDown (x : Seated) (m : Meaning) : Type 0 where
  pub shut : AtEach (λ place t v. SeesShut t v) x
  pub stands : DownStands x m

-- the seat at the table whose record is owed may make n more entries
abbrev pub SparesOwed : Seated → Owing → ℕ → Type 0
SparesOwed x o n = IfSome o.log.owed (λ r. AtPlace (Spares n) x o.owner)

-- serving: each table is open
pub record IsUp (x : Serving) (m : Meaning) : Type 0 where
  pub opened : AtEach (λ place t v. SeesOpen t v) x.seated
  pub spares : AtEach (λ place t v. Spares 3 t v) x.seated
  pub spares_owed : SparesOwed x.seated x.owing 4
  pub owed : IsOwed x.seated x.owing
  pub stands : UpStands x m

-- the content of a table when it was shut
pub record IsContent (s : HistoryState) (t : Table) : Type 0 where
  pub contents : t.contents ≡ contents_held s
  pub writes : t.writes ≡ write_count s

-- the table is shut, and all its writes were taken
pub record IsShutAndTaken (s : HistoryState) : Type 0 where
  pub shut : s.live ≡ false
  pub taken : s.taken ≡ write_count s

-- Shutting: the first tables are shut, and their contents are at hand; the others are open. The owed record is of the
-- last table that was shut, or it is owed since before the first was.
pub record IsShutting (x : Shutting) (m : Meaning) : Type 0 where
  pub few : length x.closed ≤ length x.serving.seated.tables
  pub opened : AtEach (λ place t v. length x.closed ≤ place → SeesOpen t v) x.serving.seated
  pub closed_are : AtEach (λ place t v. place < length x.closed → IsShutAndTaken (state_seen (base_seen t) v)) x.serving.seated
  pub contents : AtEach (λ place t v. (c : Table) → slice_get x.closed place ≡ Some c → IsContent (state_seen (base_seen t) v) c) x.serving.seated
  pub spares : AtEach (λ place t v. length x.closed ≤ place → Spares 3 t v) x.serving.seated
  pub spares_closed : AtEach (λ place t v. place < length x.closed → Spares 1 t v) x.serving.seated
  pub spares_owed : x.closed ≡ [] → SparesOwed x.serving.seated x.serving.owing 4
  pub spares_shut : IsTrue x.waits → SparesOwed x.serving.seated x.serving.owing 2
  pub owed : IsOwed x.serving.seated x.serving.owing
  pub last : IsTrue x.waits → 0 < length x.closed
  pub owner : IsTrue x.waits → IsSome x.serving.owing.log.owed → suc x.serving.owing.owner ≡ length x.closed
  pub owes : IsSome x.serving.owing.log.owed → IsTrue x.waits ⊎ (x.closed ≡ [])
  pub stands : UpStands x.serving m

-- copying: each table is shut
pub record IsCopying (x : Copying) (m : Meaning) : Type 0 where
  pub shut : AtEach (λ place t v. SeesShut t v) x.seated
  pub spares : AtEach (λ place t v. Spares 1 t v) x.seated
  pub more : x.drain.next ≢ Nothing
  pub stands : CopyStands x m

-- ---- what a crash may leave at each moment of a call

-- told from the seats before to the seats after, over the berth
abbrev pub SeatsTold : NamedStates → Seated → Seated → Meaning → Meaning → Type 0
SeatsTold others x y m m' = Told others (watched_by x) (watched_by y) m m'

-- The leaf runs on: if it had a log it has one again, and at each moment all that a crash may leave belongs to its
-- tables.
pub record GoesOnServing (x y : Serving) (m m' : Meaning) : Type 0 where
  pub later : List ℕ → List Write
  pub runs : Runs (watched_by y.seated) y.owing.owner y.owing.log later m'
  pub told : (others : NamedStates) → SeatsTold others x.seated y.seated m m'

abbrev pub ServingGoesOn : Serving → Serving → Meaning → Meaning → Type 0
ServingGoesOn x y m m' = (writes : List ℕ → List Write) → Runs (watched_by x.seated) x.owing.owner x.owing.log writes m → GoesOnServing x y m m'

-- the leaf is at rest, whatever the base of names that it does not have, and at each moment all that a crash may leave
-- belongs to its tables
pub record RestsOn (x y : Seated) (m m' : Meaning) : Type 0 where
  pub least : List ℕ → List Write
  pub next : Option LogRecord
  pub rests : (others : NamedStates) → ((name : List ℕ) → IsFoundation (others name)) → Rests (watched_by y) others least next m'
  pub told : (others : NamedStates) → SeatsTold others x y m m'

-- the leaf copies on, and at each moment all that a crash may leave belongs to its tables
pub record GoesOnCopying (x : Seated) (y : Copying) (m m' : Meaning) : Type 0 where
  pub writes : List ℕ → List Write
  pub copies : Copies (watched_by y.seated) y.drain writes m'
  pub told : (others : NamedStates) → SeatsTold others x y.seated m m'
