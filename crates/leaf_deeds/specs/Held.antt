-- One leaf, as a player holds it.
use Rattle.std.specs.Prelude.{◌≡◌, length}
use Rattle.leaf_steward.specs.Seated.{Seated}
use Rattle.leaf_moves.specs.Stage.{Leaf, IsDown, IsUp, IsPreparing, seated_of}
use Rattle.leaf_deeds.specs.declared.leaf.OneLeaf.{OneLeaf}
use Rattle.leaf_deeds.specs.declared.leaf.OneLeaf.TheVariants as one

-- the leaf without its berth
abbrev pub leaf_state : {B : Type 0} → OneLeaf B → Leaf
leaf_state (one.Down leaf) = IsDown leaf.0
leaf_state (one.Up leaf) = IsUp leaf.0
leaf_state (one.Preparing leaf) = IsPreparing leaf.0

abbrev pub berth_of : {B : Type 0} → OneLeaf B → B
berth_of (one.Down leaf) = leaf.1
berth_of (one.Up leaf) = leaf.1
berth_of (one.Preparing leaf) = leaf.1

-- its tables, and the steward's seats at them
abbrev pub seats_of : {B : Type 0} → OneLeaf B → Seated
seats_of leaf = seated_of (leaf_state leaf)

-- the steward still has seats at the same tables
pub record KeepsSeats (x y : Seated) : Type 0 where
  pub names : y.names ≡ x.names
  pub tables : y.tables ≡ x.tables
  pub seats : length y.seats ≡ length x.seats
