-- The callers' seats: for each table a row with a seat at each leaf, or an empty one. The column of a leaf has its seat
-- at each table.
use Rattle.std.specs.Prelude.{◌≡◌, ◌≢◌, ◌⊎◌, ℕ, ◌<◌, ◌≤◌, List, [], length, slice_get, slice_set, Option, Some}
use Rattle.leaf_history.specs.Calls.{Call}
use Rattle.leaf_history.specs.History.{LegalFrom}
use Rattle.turnstile.specs.Seats.{IsSeatOf}
use Rattle.leaf_table.specs.declared.replies.Reply.{Reply}
use Rattle.leaf_table.specs.Turns.{Shared, is_founded, start_of}
use Rattle.leaf_table.specs.Calls.{SeatView, Answered, IsCaller, base_seen, seen_of}
use Rattle.leaf_table.specs.Lists.{place, row}
use Rattle.leaf_steward.specs.Seated.{Seated}
use Rattle.player.specs.Crew.{column}

-- the rows with this element at that table and leaf
abbrev pub with_place : {A : Type 0} → List (List A) → ℕ → ℕ → A → List (List A)
with_place rows table leaf x = slice_set rows table (slice_set (row rows table) leaf x)

-- n rows, each of this length or empty
pub record AreRows {A : Type 0} (n size : ℕ) (rows : List (List A)) : Type 0 where
  pub count : length rows ≡ n
  pub each : (table : ℕ) → table < n → (row rows table ≡ []) ⊎ (length (row rows table) ≡ size)

-- the row of that table has a seat at that leaf
abbrev pub HasSeat : ℕ → ℕ → List (List SeatView) → Type 0
HasSeat leaf table rows = (c : SeatView) × (place rows table leaf ≡ Some c)

-- the rows keep their lengths, and the seats at other leaves
pub record OnlyColumn (leaf : ℕ) (rows rows' : List (List SeatView)) : Type 0 where
  pub count : length rows' ≡ length rows
  pub lengths : (table : ℕ) → length (row rows' table) ≡ length (row rows table)
  pub others : (other : ℕ) → other ≢ leaf → column other rows' ≡ column other rows

-- ---- the seats of one leaf

-- tables, and at each the callers' seat, if there is one
pub record SeatRow : Type 0 where
  pub tables : List Shared
  pub seats : List (Option SeatView)

-- those of leaf `leaf`
abbrev pub called_at : ℕ → List Shared → List (List SeatView) → SeatRow
called_at leaf tables rows = record { tables = tables; seats = column leaf rows }

-- a callers' seat at the table, which has seen a legal history
pub record IsCallersAt (t : Shared) (c : SeatView) : Type 0 where
  pub seat : IsSeatOf c t.site
  pub caller : IsCaller c
  pub legal : LegalFrom (is_founded (base_seen t)) (start_of (base_seen t)) (seen_of c)

pub record AreCalled (x : SeatRow) : Type 0 where
  pub count : length x.seats ≡ length x.tables
  pub each : (place : ℕ) (t : Shared) (c : SeatView) → slice_get x.tables place ≡ Some t → slice_get x.seats place ≡ Some (Some c) → IsCallersAt t c

-- a call at table `table`
pub record CallsTable (table : ℕ) (c : Call) (x : SeatRow) (reply : Reply) (y : SeatRow) : Type 0 where
  pub shared : Shared
  pub before : SeatView
  pub after : SeatView
  pub at : slice_get x.tables table ≡ Some shared
  pub was : slice_get x.seats table ≡ Some (Some before)
  pub answered : Answered (base_seen shared) before c reply after
  pub now : y ≡ record { tables = x.tables; seats = slice_set x.seats table (Some after) }

-- the callers' seats of leaf `leaf` are at its tables
pub record IsColumn (leaf : ℕ) (tables : List Shared) (rows : List (List SeatView)) : Type 0 where
  pub size : ℕ
  pub sizes : AreRows (length tables) size rows
  pub within : leaf < size
  pub few : length tables ≤ 16
  pub called : AreCalled (called_at leaf tables rows)

-- the steward's seats and the callers' may meet
pub record MayMeet (leaf : ℕ) (x : Seated) (rows : List (List SeatView)) : Type 0 where
  pub column : IsColumn leaf x.tables rows
  pub seats : length x.seats ≡ length x.tables
