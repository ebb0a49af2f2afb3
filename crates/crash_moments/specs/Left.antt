-- Which regions and disks belong to the tables of a leaf.
use Rattle.std.specs.Prelude.{◌≡◌, ℕ, ◌≤◌, List, length, take, Bool, true, false}
use Rattle.berth_face.specs.Berth.{Pair, IsClosed}
use Rattle.leaf_history.specs.History.{HistoryState}
use Rattle.region_head.specs.declared.head.Head.TheVariants.{Version}
use Rattle.region_layout.specs.Images.{TableImage}
use Rattle.region_layout.specs.ImageWrites.{AreImagesOf}
use Rattle.region_head.specs.Head.{head_of}
use Rattle.region_layout.specs.Region.{IsImage}
use Rattle.row_records.specs.Records.{LogRecord}
use Rattle.disk_backup.specs.Logs.{IsSound, writes_of}
use Rattle.disk_backup.specs.Settling.{HasLog}

-- the state of each table, by name; a table that is not listed has no writes
abbrev pub NamedStates : Type 0
NamedStates = List ℕ → HistoryState

-- in the log each table has a prefix of its writes, which has each flushed one
abbrev pub IsFront : NamedStates → List LogRecord → Type 0
IsFront tables records = (name : List ℕ) → (m : ℕ) × (m ≤ length (tables name).writes) × ((tables name).flushed ≤ m) × (writes_of name records ≡ take m (tables name).writes)

-- The region is closed; or open, with a version that is not read; or an image of just the writes of each table. In the
-- last case the log has all of them too, and ends where the image says, at a gate that is not open.
pub data RegionLeft (reads : ℕ → Bool) (tables : NamedStates) (pair : Pair) : Type 0 where
  closed : IsClosed pair.region → RegionLeft reads tables pair
  other_version : (version : ℕ) → head_of pair.region ≡ Version version → reads version ≡ false → RegionLeft reads tables pair
  image : (version : ℕ) (images : List TableImage) (end : ℕ)
      → reads version ≡ true
      → IsImage version pair.region images end
      → AreImagesOf (λ name. (tables name).spare) (λ name. (tables name).writes) images
      → HasLog (λ name. (tables name).writes) end pair.disk
      → RegionLeft reads tables pair

-- The pair belongs to these tables: its log is sound, its records have a prefix of the writes of each, and its region
-- is one of those above; it is closed if a table is open. `reads` tells which versions of an image are read.
pub record Left (reads : ℕ → Bool) (tables : NamedStates) (pair : Pair) : Type 0 where
  pub sound : IsSound pair.disk
  pub front : IsFront tables sound.0
  pub region : RegionLeft reads tables pair
  pub serving : (name : List ℕ) → (tables name).live ≡ true → IsClosed pair.region
