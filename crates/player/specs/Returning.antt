-- What a crew takes back from a lane.
use Rattle.std.specs.Prelude.{◌≡◌, ℕ, ◌<◌, ◌≤◌, List, length, slice_get, slice_set, Option, Some}
use Rattle.berth_face.specs.Berth.{Meaning}
use Rattle.turnstile.specs.Seats.{IsSeatOf}
use Rattle.leaf_table.specs.Turns.{Shared}
use Rattle.leaf_table.specs.Calls.{SeatView}
use Rattle.leaf_table.specs.Lists.{place, row}
use Rattle.leaf_moves.specs.Stage.{Leaf}
use Rattle.leaf_moves.specs.Holds.{Hold}
use Rattle.leaf_moves.specs.Lanes.{ComesBack, JoinsIf}
use Rattle.leaf_deeds.specs.declared.leaf.OneLeaf.{OneLeaf}
use Rattle.player.specs.Stage.{held_of}

-- ---- seats

-- the seats of two crews at one table: each is at the table of its leaf, and if the second has one, so has the first
pub record MayJoin (tables : List (List Shared)) (table : ℕ) (seats off : List SeatView) : Type 0 where
  pub few : length seats ≤ 256
  pub counts : (length off ≤ length seats) × (length seats ≤ length tables)
  pub ours : (leaf : ℕ) (s : SeatView) → slice_get seats leaf ≡ Some s → (t : Shared) × (place tables leaf table ≡ Some t) × IsSeatOf s t.site
  pub theirs : (leaf : ℕ) (u : SeatView) → slice_get off leaf ≡ Some u → (t : Shared) × (place tables leaf table ≡ Some t) × IsSeatOf u t.site

-- from index k on the seats of the second were joined to those of the first
pub record JoinsFrom (k : ℕ) (seats off after : List SeatView) : Type 0 where
  pub count : length after ≡ length seats
  pub joined : (leaf : ℕ) → k ≤ leaf → JoinsIf (slice_get seats leaf) (slice_get off leaf) (slice_get after leaf)
  pub others : (leaf : ℕ) → leaf < k → slice_get after leaf ≡ slice_get seats leaf

-- the same of the first k tables
pub record RowsJoined (k : ℕ) (rows offs rows' offs' : List (List SeatView)) : Type 0 where
  pub counts : (length rows' ≡ length rows) × (length offs' ≡ length offs)
  pub joined : (table : ℕ) → table < k → JoinsFrom 0 (row rows table) (row offs table) (row rows' table)
  pub others : (table : ℕ) → k ≤ table → (row rows' table ≡ row rows table) × (row offs' table ≡ row offs table)

-- ---- leaves

-- a leaf came back, if it was lent
pub record LeafBack {B : Type 0} (meaning : B → Meaning) (leaf : ℕ) (off : Option (Leaf × B)) (xs ys : List (Hold B)) : Type 0 where
  pub before : Hold B
  pub after : Hold B
  pub at : slice_get xs leaf ≡ Some before
  pub tables : after.tables ≡ before.tables
  pub comes : ComesBack meaning off before.held before.callers after.held after.callers
  pub now : ys ≡ slice_set xs leaf after

-- the leaves from number k on came back
pub record LeavesBack {B : Type 0} (meaning : B → Meaning) (k : ℕ) (offs : List (Option (OneLeaf B))) (xs ys : List (Hold B)) : Type 0 where
  pub count : length ys ≡ length xs
  pub back : (leaf : ℕ) (x y : Hold B) (o : Option (OneLeaf B)) → k ≤ leaf → slice_get xs leaf ≡ Some x → slice_get offs leaf ≡ Some o → slice_get ys leaf ≡ Some y
      → (y.tables ≡ x.tables) × ComesBack meaning (held_of o) x.held x.callers y.held y.callers
  pub others : (leaf : ℕ) → leaf < k → slice_get ys leaf ≡ slice_get xs leaf
