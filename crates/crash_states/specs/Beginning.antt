-- Over which berths a leaf may begin, and that a berth that a leaf left is one.
use Rattle.std.specs.Prelude.{◌≡◌, ◌⊎◌, ℕ, ◌+◌, ◌≤◌, List, [], length, take, Option, IsTrue}
use Rattle.leaf_model.specs.declared.writes.Write.{Write}
use Rattle.row_records.specs.Records.{LogRecord}
use Rattle.berth_face.specs.Berth.{Meaning}
use Rattle.table_state.specs.Tables.{added_count}
use Rattle.region_layout.specs.Images.{TableImage, table_named}
use Rattle.region_layout.specs.Region.{IsAdoptable}
use Rattle.leaf_history.specs.History.{HistoryState, base_of}
use Rattle.crash_moments.specs.Left.{NamedStates}
use Rattle.disk_backup.specs.Settling.{with_writes}
use Rattle.disk_backup.specs.SoundLogs.{HasSoundLog}
use Rattle.crash_states.specs.Standing.{Rests}

-- A leaf with this base may begin over the berth. Each log that a crash may leave has the least writes of each name, or
-- those of one record more. The base has the longest.
abbrev pub MayBegin : NamedStates → Meaning → Type 0
MayBegin base m = IsTrue m.tells × ((least : List ℕ → List Write) × (next : Option LogRecord) × Rests [] base least next m)

-- the spare columns of a name are those of the image in the region, and none without an image
abbrev pub IsLeastSpare : List ℕ → List ℕ → HistoryState → Type 0
IsLeastSpare region name s =
    (s.spare ≡ 0) ⊎ ((images : List TableImage) × (log_end : ℕ) × IsAdoptable region images log_end × (s.spare + added_count s.writes ≡ (table_named images name).columns))

-- the base has a prefix of the table's writes, and each log has each flushed one; it has no more spare columns
pub record IsFrontOf (s b : HistoryState) : Type 0 where
  pub front : b.writes ≡ take (length b.writes) s.writes
  pub flushed : s.flushed ≤ b.flushed
  pub spare : b.spare ≤ s.spare

-- A leaf may begin over the berth, with a base that has a prefix of the writes of each table. The base is tight: each
-- name has the writes of the longest log that a crash may leave, and those of the shortest count as flushed. It has
-- no more spare columns than the region needs.
pub record BeginsAgain (tables : NamedStates) (m : Meaning) : Type 0 where
  pub base : NamedStates
  pub is : (name : List ℕ) → base name ≡ base_of (base name).writes (base name).flushed (base name).spare
  pub begins : MayBegin base m
  pub tight : (name : List ℕ) → base name ≡ base_of (with_writes begins.1.1 begins.1.0 name) (length (begins.1.0 name)) (base name).spare
  pub least : (name : List ℕ) → IsLeastSpare m.held.region name (base name)
  pub front : (name : List ℕ) → IsFrontOf (tables name) (base name)

-- A leaf may begin over a berth that was opened on this disk. Its base is what the log has, all of it flushed, and that
-- is a prefix of the writes of each table.
pub record BeginsOnLog (tables : NamedStates) (disk : List ℕ) (m : Meaning) : Type 0 where
  pub logged : List ℕ → List Write
  pub spare : List ℕ → ℕ
  pub log : HasSoundLog logged disk
  pub begins : MayBegin (λ name. base_of (logged name) (length (logged name)) (spare name)) m
  pub least : (name : List ℕ) → IsLeastSpare m.held.region name (base_of (logged name) (length (logged name)) (spare name))
  pub front : (name : List ℕ) → IsFrontOf (tables name) (base_of (logged name) (length (logged name)) (spare name))
