-- The tables of a new fleet, and the seats at them.
use Rattle.std.specs.Prelude.{◌≡◌, ℕ, ◌+◌, ◌<◌, ◌≤◌, List, length, slice_get, Option, Some}
use Rattle.turnstile.specs.Seats.{IsSeatOf, unused_seat}
use Rattle.leaf_table.specs.declared.base.TableBase.{TableBase}
use Rattle.leaf_table.specs.Turns.{Shared}
use Rattle.leaf_table.specs.Calls.{SeatView, SeesShut, base_seen, name_of}
use Rattle.leaf_table.specs.Lists.{row, place}

-- a name of at most 255 bytes
abbrev pub IsShortName : List ℕ → Type 0
IsShortName name = length name ≤ 255

-- a new table with these indices, this name and this base; both seats are unused, and it is shut
pub record IsNew (base : Option TableBase) (leaf number : ℕ) (name : List ℕ) (share : ℕ) (table : Shared) (steward caller : SeatView) : Type 0 where
  pub numbers : (table.leaf ≡ leaf) × (table.table ≡ number)
  pub named : name_of table ≡ name
  pub founded : base_seen table ≡ base
  pub unused : steward ≡ unused_seat table.site 0 1 1024
  pub unused_caller : caller ≡ unused_seat table.site 1 share share
  pub shut : SeesShut table steward
  pub seats : IsSeatOf steward table.site × IsSeatOf caller table.site

-- table `number` of a leaf is new, has the name at its index, and both its seats are at theirs
pub record IsAt (base : ℕ → ℕ → Option TableBase) (names : List (List ℕ)) (share : ℕ) (tables : List Shared) (stewards : List SeatView) (callers : List (List SeatView)) (leaf t : ℕ) : Type 0 where
  pub name : List ℕ
  pub table : Shared
  pub steward : SeatView
  pub caller : SeatView
  pub named : slice_get names t ≡ Some name
  pub stands : slice_get tables t ≡ Some table
  pub stewards_seat : slice_get stewards t ≡ Some steward
  pub callers_seat : place callers t leaf ≡ Some caller
  pub new : IsNew (base leaf t) leaf t name share table steward caller

-- the first k tables of a leaf were made, and their callers' seats appended to those of the leaves before
pub record IsPartOfFleet (base : ℕ → ℕ → Option TableBase) (leaf : ℕ) (names : List (List ℕ)) (share k : ℕ) (tables : List Shared) (stewards : List SeatView) (before callers : List (List SeatView)) : Type 0 where
  pub sizes : (length tables ≡ k) × (length stewards ≡ k) × (length callers ≡ length before)
  pub longer : (t : ℕ) → t < k → length (row callers t) ≡ length (row before t) + 1
  pub same : (t : ℕ) → k ≤ t → row callers t ≡ row before t
  pub kept : (i j : ℕ) (seat : SeatView) → place before i j ≡ Some seat → place callers i j ≡ Some seat
  pub places : (t : ℕ) → t < k → IsAt base names share tables stewards callers leaf t

-- a new fleet: a new table for each leaf and each name, and both its seats
pub record IsNewFleet (base : ℕ → ℕ → Option TableBase) (leaves : ℕ) (names : List (List ℕ)) (share : ℕ) (tables : List (List Shared)) (stewards callers : List (List SeatView)) : Type 0 where
  -- the numbers of leaves and tables
  pub counts : (length tables ≡ leaves) × (length stewards ≡ leaves) × (length callers ≡ length names)
  -- each leaf has a table of each name, and the steward's seat at it
  pub in_leaf : (leaf : ℕ) → leaf < leaves → (length (row tables leaf) ≡ length names) × (length (row stewards leaf) ≡ length names)
  -- each table has a callers' seat for each leaf
  pub in_table : (t : ℕ) → t < length names → length (row callers t) ≡ leaves
  -- each index has the table of that leaf and number, and its seats
  pub places : (leaf t : ℕ) → leaf < leaves → t < length names → IsAt base names share (row tables leaf) (row stewards leaf) callers leaf t
