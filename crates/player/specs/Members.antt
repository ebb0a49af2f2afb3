-- The leaves of a fleet, as a crew stores them.
use Rattle.std.specs.Prelude.{◌≡◌, ℕ, suc, ◌<◌, List, [], ◌∷◌, length, map, slice_get, Option, Some, Result, Vec, IfOk}
use Rattle.std.specs.Global.{Global}
use Rattle.std.specs.List.{AllByRecursion}
use Rattle.berth_face.specs.Berth.{Meaning}
use Rattle.region_layout.specs.Names.{AreNames}
use Rattle.leaf_table.specs.Turns.{Shared}
use Rattle.leaf_table.specs.Calls.{SeatView, name_of}
use Rattle.leaf_table.specs.Lists.{lists_in, row}
use Rattle.script_text.specs.Fits.{AreLeaves}
use Rattle.printed_lines.specs.declared.line.Line.{Line}
use Rattle.printed_lines.specs.Lines.{IsOf}
use Rattle.script_text.specs.declared.fleet.FleetShape.{FleetShape}
use Rattle.script_text.specs.Commands.{leaf_count}
use Rattle.transcript.specs.Pieces.{Piece, lines_in}
use Rattle.leaf_moves.specs.Holds.{Hold}
use Rattle.leaf_moves.specs.Plays.{Goes}
use Rattle.leaf_deeds.specs.declared.leaf.OneLeaf.{OneLeaf}
use Rattle.player.specs.declared.members.Members.{Members}
use Rattle.player.specs.Crew.{AllCounted, AllPass, StillHas}
use Rattle.player.specs.Rows.{AreRows, IsColumn}
use Rattle.leaf_deeds.specs.Held.{seats_of}
use Rattle.player.specs.Stage.{hold_at}

-- what is held of the leaves from leaf `leaf` on
abbrev pub holds_from : {B : Type 0} → ℕ → List (List Shared) → List (Option (OneLeaf B)) → List (List SeatView) → List (Hold B)
holds_from leaf tables [] rows = []
holds_from leaf tables (x ∷ xs) rows = hold_at leaf tables rows x ∷ holds_from (suc leaf) tables xs rows

abbrev pub holds_in : {B : Type 0} → Members B → List (Hold B)
holds_in x = holds_from 0 x.tables.now x.leaves.items (lists_in x.rows.items)

abbrev pub fleet_in : {B : Type 0} → Members B → FleetShape
fleet_in x = record { machines = x.machines; per_machine = x.per_machine; names = x.names }

-- the leaf has its own tables of the fleet, and the steward's seat at each
pub record IsLeafOf {B : Type 0} (x : Members B) (leaf : ℕ) (one : OneLeaf B) : Type 0 where
  pub names : (seats_of one).names ≡ x.names
  pub tables : (seats_of one).tables ≡ row x.tables.now leaf
  pub seats : length (seats_of one).seats ≡ length x.names

-- the invariant of a crew: each leaf that is held has its tables and the steward's seat at each; each table has a
-- callers' seat at each leaf, or none
pub record AreMembers {B : Type 0} (x : Members B) : Type 0 where
  pub named : AreNames x.names
  pub few : AreLeaves x.machines x.per_machine
  pub leaves : length x.leaves.items ≡ leaf_count (fleet_in x)
  pub tables : length x.tables.now ≡ leaf_count (fleet_in x)
  pub rows : AreRows (length x.names) (leaf_count (fleet_in x)) (lists_in x.rows.items)
  pub names : (leaf : ℕ) → leaf < leaf_count (fleet_in x) → map name_of (row x.tables.now leaf) ≡ x.names
  pub columns : (leaf : ℕ) → leaf < leaf_count (fleet_in x) → IsColumn leaf (row x.tables.now leaf) (lists_in x.rows.items)
  pub each : (leaf : ℕ) (one : OneLeaf B) → slice_get x.leaves.items leaf ≡ Some (Some one) → IsLeafOf x leaf one

-- the fleet and its tables are unchanged
pub record SameFleet {B : Type 0} (x y : Members B) : Type 0 where
  pub fleet : fleet_in y ≡ fleet_in x
  pub tables : y.tables.now ≡ x.tables.now

-- What callers and stewards of the leaves did, with its pieces. Memory for their lines may have run out.
pub record GoesWith {B E : Type 0} (meaning : B → Meaning) (names : List (List ℕ)) (xs : List (Hold B)) (result : Result (Vec Line Global) E) (pieces : List Piece) (ys : List (Hold B)) : Type 0 where
  pub goes : Goes meaning xs pieces ys
  pub counted : AllCounted meaning pieces xs ys
  pub time : AllPass meaning xs ys
  pub still : StillHas xs ys
  pub fit : AllByRecursion (IsOf names) (lines_in pieces)
  pub lines_are : IfOk result (λ lines. lines.items ≡ lines_in pieces)
