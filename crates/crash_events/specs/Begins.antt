-- The machine of a leaf that begins over a berth.
use Rattle.std.specs.Prelude.{◌≡◌, ℕ, ◌+◌, ◌-◌, ◌==◌, Bool, true, false, List, [], ◌∷◌, ◌++◌, length, map, Some, None, Option, if◌then◌else◌}
use Rattle.berth_face.specs.Berth.{Pair, Meaning, IsClosed}
use Rattle.berth_face.specs.Moments.{KeepsRegion}
use Rattle.region_head.specs.declared.head.Head.TheVariants.{Version}
use Rattle.region_layout.specs.Images.{TableImage}
use Rattle.row_model.specs.Names.{AreDistinct}
use Rattle.region_head.specs.Head.{head_of}
use Rattle.region_layout.specs.Region.{IsImage}
use Rattle.crash_moments.specs.Left.{NamedStates}
use Rattle.crash_moments.specs.Base.{IsReady}
use Rattle.crash_events.specs.Machine.{Machine, Tracked, Hand, Down, RegionIs, Closed, Whole, Other}
use Rattle.crash_events.specs.Kept.{Kept}
use Rattle.crash_events.specs.Fits.{FitsPair, IsElsewhere}
use Rattle.crash_events.specs.Laws.{IsPlain}

-- a table of this base; every crash leaves its flushed writes
abbrev pub begun_table : NamedStates → Bool → List ℕ → Tracked
begun_table base own name = record { name = name; own = own; state = base name; sure = (base name).flushed }

-- the leaf's tables, and after them names that it does not have
abbrev pub begun_tables : NamedStates → List (List ℕ) → List (List ℕ) → List Tracked
begun_tables base own others = map (begun_table base true) own ++ map (begun_table base false) others

-- the record that may be lost or not, of a table that has more writes than are sure
abbrev pub open_of : ℕ → Tracked → Hand
open_of t x = record { table = t; writes = length x.state.writes - x.sure; laid = true; gate = true }

-- that record of the first such table from place t on, if there is one
abbrev pub open_hand : ℕ → List Tracked → Option Hand
open_hand t [] = None
open_hand t (x ∷ xs) = if length x.state.writes == x.sure then open_hand (t + 1) xs
    else Some (open_of t x)

-- the machine begins in Down
abbrev pub machine_begun : NamedStates → List (List ℕ) → List (List ℕ) → RegionIs → Machine
machine_begun base own others region = record { tables = begun_tables base own others; hand = open_hand 0 (begun_tables base own others); mode = Down; region = region }

-- what a region's bytes are
pub data RegionReads (reads : ℕ → Bool) (region : List ℕ) : RegionIs → Type 0 where
  reads_closed : IsClosed region → RegionReads reads region Closed
  reads_whole : (version : ℕ) (images : List TableImage) (end : ℕ) → reads version ≡ true → IsImage version region images end → RegionReads reads region Whole
  reads_other : (version : ℕ) → head_of region ≡ Version version → reads version ≡ false → RegionReads reads region Other

-- what every berth promises of the pairs that a crash may leave now: what reads give is one, and each region is that or
-- closed
pub record LeavesItself (berth : Meaning) : Type 0 where
  pub stands : berth.leaves berth.clock berth.held
  pub region : KeepsRegion berth

-- no other name has writes
abbrev pub HasNoOther : NamedStates → List Tracked → Type 0
HasNoOther base tables = (name : List ℕ) → IsElsewhere name tables → (base name).writes ≡ []

-- the leaf's machine has the invariant, and each pair that a crash may leave fits it
pub record MachineBegins (reads : ℕ → Bool) (berth : Meaning) (base : NamedStates) (own others : List (List ℕ)) : Type 0 where
  pub region : RegionIs
  pub region_reads : RegionReads reads berth.held.region region
  pub kept : Kept (machine_begun base own others region)
  pub plain : IsPlain (begun_tables base own others)
  pub fits : (pair : Pair) → berth.leaves berth.clock pair → FitsPair reads (machine_begun base own others region) pair

-- over a ready berth a leaf begins, whatever its tables and its base
abbrev pub LeafBegins : (ℕ → Bool) → Meaning → Type 0
LeafBegins reads berth = (base : NamedStates) (own : List (List ℕ)) → IsReady reads berth base → AreDistinct own
    → (others : List (List ℕ)) × AreDistinct (own ++ others) × MachineBegins reads berth base own others
