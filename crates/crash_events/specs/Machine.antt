-- The state of a leaf as a machine: its tables, the record that is being settled, what it is doing, and its region.
use Rattle.std.specs.Prelude.{ℕ, Bool, List, Option}
use Rattle.leaf_history.specs.History.{HistoryState}

-- a table of the leaf, or a name that the leaf does not have
pub record Tracked : Type 0 where
  pub name : List ℕ
  pub own : Bool
  pub state : HistoryState
  pub sure : ℕ  -- how many of its writes every crash leaves

-- the record that is being settled: its table and its number of writes
pub record Hand : Type 0 where
  pub table : ℕ
  pub writes : ℕ
  pub laid : Bool  -- it stands behind a closed gate, and a sync was made
  pub gate : Bool  -- the write of its open gate has begun

-- what the leaf is doing
pub data Mode : Type 0 where
  -- nothing: it did not start yet, or it was killed
  Down : Mode
  -- it looks at the head of the region; `found` tells whether an image was found
  Finding : (found : Bool) → Mode
  -- it reads the log; `made` tells whether the sync before was made
  Scanning : (made : Bool) → Mode
  -- it adopts the image
  Adopting : Mode
  -- some of its tables are open
  Opening : Mode
  -- all its tables are open
  Up : Mode
  -- it shuts its tables, to drain them
  Preparing : Mode
  -- it copies them into the region
  Copying : Mode

-- what the region is
pub data RegionIs : Type 0 where
  Closed : RegionIs
  -- an image of the tables
  Whole : RegionIs
  -- closed, or an image of the tables
  Either : RegionIs
  -- closed, or open with a version that is not read
  Other : RegionIs

-- a leaf
pub record Machine : Type 0 where
  pub tables : List Tracked
  pub hand : Option Hand
  pub mode : Mode
  pub region : RegionIs
