-- One leaf, as a crew holds it.
use Rattle.std.specs.Prelude.{◌≡◌, ℕ, List, length, map, Option, Some, None}
use Rattle.region_layout.specs.Names.{AreNames}
use Rattle.leaf_table.specs.Turns.{Shared}
use Rattle.leaf_table.specs.Calls.{SeatView, name_of}
use Rattle.leaf_table.specs.Lists.{row}
use Rattle.leaf_steward.specs.Seated.{Seated}
use Rattle.leaf_moves.specs.Holds.{Hold}
use Rattle.leaf_moves.specs.Stage.{Leaf}
use Rattle.leaf_deeds.specs.declared.leaf.OneLeaf.{OneLeaf}
use Rattle.leaf_deeds.specs.Held.{berth_of, leaf_state}
use Rattle.player.specs.Crew.{column}
use Rattle.player.specs.Rows.{MayMeet}

-- the berth of a leaf, if it is held
abbrev pub own_berth : {B : Type 0} → Option (OneLeaf B) → Option B
own_berth None = None
own_berth (Some x) = Some (berth_of x)

-- the leaf with its berth, if it is held
abbrev pub held_of : {B : Type 0} → Option (OneLeaf B) → Option (Leaf × B)
held_of None = None
held_of (Some x) = Some (leaf_state x, berth_of x)

-- what is held of leaf `leaf`: its callers' seats, and maybe the leaf
abbrev pub hold_at : {B : Type 0} → ℕ → List (List Shared) → List (List SeatView) → Option (OneLeaf B) → Hold B
hold_at leaf tables rows x = record { tables = row tables leaf; callers = column leaf rows; held = held_of x }

-- leaf `number` has tables of these names, and the steward's seat at each; the callers' seats of its column are at them
pub record IsMember (names : List (List ℕ)) (number : ℕ) (x : Seated) (rows : List (List SeatView)) : Type 0 where
  pub named : AreNames names
  pub same : x.names ≡ names
  pub names_are : map name_of x.tables ≡ names
  pub seats : length x.seats ≡ length names
  pub may : MayMeet number x rows
