-- The base of a berth: what a leaf that begins there finds, and over which berths a leaf may begin.
use Rattle.std.specs.Prelude.{◌≡◌, ◌≢◌, ◌⊎◌, ℕ, ◌≤◌, List, [], length, Bool, true, IsTrue}
use Rattle.berth_face.specs.Berth.{Pair, Meaning}
use Rattle.leaf_model.specs.declared.writes.Write.{Write}
use Rattle.leaf_history.specs.History.{HistoryState, base_of}
use Rattle.region_layout.specs.Images.{TableImage}
use Rattle.region_layout.specs.Region.{IsImage}
use Rattle.row_records.specs.Records.{LogRecord}
use Rattle.disk_backup.specs.Logs.{IsLog, writes_of}
use Rattle.disk_backup.specs.Settling.{HasLog}
use Rattle.crash_moments.specs.Left.{NamedStates, Left}

-- the writes of a name in a disk's log
abbrev pub HasWritesOf : List ℕ → List ℕ → List Write → Type 0
HasWritesOf disk name writes = (records : List LogRecord) × (end : ℕ) × IsLog disk records end × (writes ≡ writes_of name records)

-- the base of a name, over the pairs that a crash may leave now: the writes of its longest log; those of the shortest
-- count as flushed. A name without
-- writes has no spare columns.
pub record IsBaseOf (may_leave : Pair → Type 0) (name : List ℕ) (base : HistoryState) : Type 0 where
  pub is : base ≡ base_of base.writes base.flushed base.spare
  pub none : base.writes ≡ [] → base.spare ≡ 0
  pub longest : (pair : Pair) × may_leave pair × HasWritesOf pair.disk name base.writes
  pub least : (pair : Pair) × (writes : List Write) × may_leave pair × HasWritesOf pair.disk name writes × (base.flushed ≡ length writes)
  pub between : (pair : Pair) (writes : List Write) → may_leave pair → HasWritesOf pair.disk name writes → (base.flushed ≤ length writes) × (length writes ≤ length base.writes)

-- all logs of a name have the same length
abbrev pub IsFixed : (Pair → Type 0) → List ℕ → Type 0
IsFixed may_leave name = (p q : Pair) (u v : List Write) → may_leave p → may_leave q → HasWritesOf p.disk name u → HasWritesOf q.disk name v → length u ≡ length v

-- the logs of a name have two lengths
abbrev pub HasTwoLengths : (Pair → Type 0) → List ℕ → HistoryState → Type 0
HasTwoLengths may_leave name base = (p : Pair) (u : List Write) → may_leave p → HasWritesOf p.disk name u → (length u ≡ base.flushed) ⊎ (length u ≡ length base.writes)

-- A leaf may begin over these pairs; reads give `now`. Each pair belongs to the base. At most one record may be lost or
-- not. An empty disk was not written. Beside an image that is read each log has all of the base, and ends where the
-- image says.
pub record PairsMayBegin (reads : ℕ → Bool) (may_leave : Pair → Type 0) (now : Pair) (base : NamedStates) : Type 0 where
  pub base_is : (name : List ℕ) → IsBaseOf may_leave name (base name)
  pub left : (pair : Pair) → may_leave pair → Left reads base pair
  pub one_open : ((name : List ℕ) → IsFixed may_leave name)
      ⊎ ((name : List ℕ) × HasTwoLengths may_leave name (base name) × ((other : List ℕ) → other ≢ name → IsFixed may_leave other))
  pub empty : now.disk ≡ [] → (pair : Pair) → may_leave pair → length pair.disk ≤ 1
  pub image : (version : ℕ) (images : List TableImage) (end : ℕ) → reads version ≡ true → IsImage version now.region images end
      → (pair : Pair) → may_leave pair → HasLog (λ name. (base name).writes) end pair.disk

-- the berth tells its contents, and a leaf with this base may begin there now
pub record IsReady (reads : ℕ → Bool) (berth : Meaning) (base : NamedStates) : Type 0 where
  pub tells : IsTrue berth.tells
  pub begins : PairsMayBegin reads (berth.leaves berth.clock) berth.held base
