-- Which regions and disks a crash may leave of a leaf's machine.
use Rattle.std.specs.Prelude.{◌≡◌, ℕ, Bool, true, false, List, [], ◌∷◌, take, if◌then◌else◌, bytes_eq}
use Rattle.std.specs.List.{AllByRecursion}
use Rattle.berth_face.specs.Berth.{Pair, IsClosed}
use Rattle.leaf_history.specs.History.{no_base}
use Rattle.region_head.specs.declared.head.Head.TheVariants.{Version}
use Rattle.region_layout.specs.Images.{TableImage}
use Rattle.region_layout.specs.ImageWrites.{AreImagesOf}
use Rattle.region_head.specs.Head.{head_of}
use Rattle.region_layout.specs.Region.{IsImage}
use Rattle.row_records.specs.Records.{LogRecord}
use Rattle.disk_backup.specs.Logs.{IsSound, ClosedLog, writes_of}
use Rattle.crash_moments.specs.Left.{NamedStates}
use Rattle.crash_events.specs.Machine.{Machine, Tracked, RegionIs, Whole, Either, Other}
use Rattle.crash_events.specs.Events.{MayBe}
use Rattle.crash_events.specs.Kept.{AllPlaces}

-- the log has the sure writes of each table, and after them those of the hand, all or none, if the write of its gate
-- began
abbrev pub LogFits : Machine → List LogRecord → Type 0
LogFits m records = AllPlaces (λ t x. (n : ℕ) × MayBe m t x n × (writes_of x.name records ≡ take n x.state.writes)) 0 m.tables

-- the region is what the machine says, or closed
pub data RegionFits (reads : ℕ → Bool) (tables : NamedStates) (pair : Pair) : RegionIs → Type 0 where
  shows_closed : {r : RegionIs} → IsClosed pair.region → RegionFits reads tables pair r
  shows_whole : (version : ℕ) (images : List TableImage) (records : List LogRecord) (end : ℕ) → reads version ≡ true → IsImage version pair.region images end
      → AreImagesOf (λ name. (tables name).spare) (λ name. (tables name).writes) images → ClosedLog records end pair.disk → RegionFits reads tables pair Whole
  shows_either : RegionFits reads tables pair Whole → RegionFits reads tables pair Either
  shows_other : (version : ℕ) → head_of pair.region ≡ Version version → reads version ≡ false → RegionFits reads tables pair Other

-- the state of each name; a name of no table has no writes
abbrev pub states_by_name : List Tracked → NamedStates
states_by_name [] name = no_base
states_by_name (x ∷ xs) name = if bytes_eq name x.name then x.state else states_by_name xs name

-- no table has this name
abbrev pub IsElsewhere : List ℕ → List Tracked → Type 0
IsElsewhere name ts = AllByRecursion (λ (x : Tracked). bytes_eq name x.name ≡ false) ts

-- a pair fits: its log is sound, and has what the machine says of each table and nothing of other names; its region is
-- what the machine says
pub record FitsPair (reads : ℕ → Bool) (m : Machine) (pair : Pair) : Type 0 where
  pub sound : IsSound pair.disk
  pub logs : LogFits m sound.0
  pub others : (name : List ℕ) → IsElsewhere name m.tables → writes_of name sound.0 ≡ []
  pub region : RegionFits reads (states_by_name m.tables) pair m.region
