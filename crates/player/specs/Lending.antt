-- Meetings of all seats, and what a crew lends to a lane.
use Rattle.std.specs.Prelude.{◌≡◌, ℕ, ◌<◌, ◌≤◌, List, [], length, slice_get, slice_set, Bool, true, Option, Some, None, Vec, vec_capacity, MatchBool}
use Rattle.std.specs.Global.{Global}
use Rattle.berth_face.specs.Berth.{Meaning}
use Rattle.turnstile.specs.Seats.{IsSeatOf, given, keeps_all_but}
use Rattle.leaf_table.specs.Turns.{Shared}
use Rattle.leaf_table.specs.Calls.{SeatView}
use Rattle.leaf_table.specs.Lists.{place, row}
use Rattle.leaf_moves.specs.Holds.{Hold, HoldMeets}

-- ---- meetings

-- the seats of leaf `leaf` met, and no others
pub record MeetsLeaf {B : Type 0} (meaning : B → Meaning) (leaf : ℕ) (xs ys : List (Hold B)) : Type 0 where
  pub before : Hold B
  pub after : Hold B
  pub at : slice_get xs leaf ≡ Some before
  pub meets : HoldMeets meaning before after
  pub now : ys ≡ slice_set xs leaf after

-- the seats of the first k leaves met, and no others
pub record MeetLeaves {B : Type 0} (meaning : B → Meaning) (k : ℕ) (xs ys : List (Hold B)) : Type 0 where
  pub count : length ys ≡ length xs
  pub met : (leaf : ℕ) (x y : Hold B) → leaf < k → slice_get xs leaf ≡ Some x → slice_get ys leaf ≡ Some y → HoldMeets meaning x y
  pub others : (leaf : ℕ) → k ≤ leaf → slice_get ys leaf ≡ slice_get xs leaf

-- ---- what is lent

-- each callers' seat at a table has two ids of its own
pub record MaySplit (tables : List (List Shared)) (table : ℕ) (seats : List SeatView) : Type 0 where
  pub few : length seats ≤ 256
  pub count : length seats ≤ length tables
  pub each : (leaf : ℕ) (s : SeatView) → slice_get seats leaf ≡ Some s → (t : Shared) × (place tables leaf table ≡ Some t) × IsSeatOf s t.site × (1 < s.share)

-- each of the first k seats gave one id away, and no other did
pub record SplitsFirst (k : ℕ) (seats off rest : List SeatView) : Type 0 where
  pub counts : (length rest ≡ length seats) × (length off ≡ k)
  pub split : (leaf : ℕ) (s : SeatView) → leaf < k → slice_get seats leaf ≡ Some s → (1 < s.share) × (slice_get off leaf ≡ Some (given 1 s)) × (slice_get rest leaf ≡ Some (keeps_all_but 1 s))
  pub others : (leaf : ℕ) → k ≤ leaf → slice_get rest leaf ≡ slice_get seats leaf

-- if the table is needed, each seat gave one id away
abbrev pub RowSplits : Bool → List SeatView → List SeatView → List SeatView → Type 0
RowSplits needed seats off rest = MatchBool needed (SplitsFirst (length seats) seats off rest) ((off ≡ []) × (rest ≡ seats))

-- the same of the first k tables
pub record RowsSplit (k : ℕ) (needs : ℕ → Bool) (rows offs rests : List (List SeatView)) : Type 0 where
  pub counts : (length rests ≡ length rows) × (length offs ≡ length rows)
  pub split : (table : ℕ) → table < k → RowSplits (needs table) (row rows table) (row offs table) (row rests table)
  pub others : (table : ℕ) → k ≤ table → (row rests table ≡ row rows table) × (row offs table ≡ [])

-- the slot was emptied, if it is needed
abbrev pub SlotSplits : {A : Type 0} → Bool → Option A → Option A → Option A → Type 0
SlotSplits needed slot off rest = MatchBool needed ((off ≡ slot) × (rest ≡ None)) ((off ≡ None) × (rest ≡ slot))

-- each of the first k slots was emptied, if it is needed
pub record SlotsSplit {A : Type 0} (k : ℕ) (needs : ℕ → Bool) (slots offs rests : List (Option A)) : Type 0 where
  pub counts : (length rests ≡ length slots) × (length offs ≡ k)
  pub split : (leaf : ℕ) (x o r : Option A) → leaf < k → slice_get slots leaf ≡ Some x → slice_get offs leaf ≡ Some o → slice_get rests leaf ≡ Some r → SlotSplits (needs leaf) x o r
  pub others : (leaf : ℕ) → k ≤ leaf → slice_get rests leaf ≡ slice_get slots leaf

-- empty lists, each with room for `room` seats if its table is needed
pub record AreRoomy (needs : ℕ → Bool) (room : ℕ) (rows : List (Vec SeatView Global)) : Type 0 where
  pub each : (table : ℕ) (v : Vec SeatView Global) → slice_get rows table ≡ Some v → (v.items ≡ []) × (needs table ≡ true → room ≤ vec_capacity v)
