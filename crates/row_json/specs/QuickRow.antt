-- Cells that are inserted one by one, as the members come.
use Rattle.std.specs.Prelude.{◌≡◌, ℕ, [], ◌∷◌, ◌≤◌, List, map, Option, Some, None, Ok, false, length, take, drop}
use Rattle.std.specs.Cmp.Lexicographic.{slice_cmp}
use Rattle.std.specs.List.{AllByRecursion}
use Rattle.std.specs.List.Sorted.{IsStrictlySortedBy}
use Rattle.std.specs.Ordering.{nat_cmp}
use Rattle.std.specs.declared.cmp.Ordering.TheVariants.{Less}
use Rattle.serde_json.specs.Data.{Data, null, object, Members, no_members, member, put}
use Rattle.row_model.specs.declared.rows.Value.{Value}
use Rattle.row_model.specs.declared.rows.Cell.{Cell}
use Rattle.row_model.specs.declared.rows.Row.{Row}
use Rattle.row_json.specs.Row.{cell_count, cells_of, is_missing, time_of, value_of}

abbrev pub names_of : Members → List (List ℕ)
names_of no_members = []
names_of (member k d ms) = k ∷ names_of ms

abbrev pub cell_names : List Cell → List (List ℕ)
cell_names cs = map (λ (c : Cell). c.name) cs

-- name a is less than name b
abbrev pub Below : List ℕ → List ℕ → Type 0
Below a b = slice_cmp nat_cmp a b ≡ Less

-- the names of the members strictly ascend
abbrev pub Ascending : Members → Type 0
Ascending ms = IsStrictlySortedBy (slice_cmp nat_cmp) (names_of ms)

-- the names of the cells strictly ascend
abbrev pub Ascend : List Cell → Type 0
Ascend cs = IsStrictlySortedBy (slice_cmp nat_cmp) (cell_names cs)

-- a cell of this name goes after the first `place` cells, and no cell has the name
pub record IsPlace (cells : List Cell) (name : List ℕ) (place : ℕ) : Type 0 where
  pub inside : place ≤ length cells
  pub lesser : AllByRecursion (λ cell. Below cell.name name) (take place cells)
  pub greater : AllByRecursion (λ cell. Below name cell.name) (drop place cells)

-- the value that a cell holds of a JSON value; None of null
abbrev pub MeansValue : Data → Option Value → Type 0
MeansValue d None = d ≡ null
MeansValue d (Some v) = (is_missing d ≡ false) × (value_of d ≡ Some v)

-- if the members had the cells `before`, they have the cells `after` once this member is put
abbrev pub Puts : List ℕ → Data → List Cell → List Cell → Type 0
Puts name d before after = (old : Members) → Ascending old → cells_of old ≡ Ok before → cells_of (put name d old) ≡ Ok after

-- the row of these members
pub record IsMadeOf (all : Members) (row : Row) : Type 0 where
  pub time : time_of (object all) ≡ Some row.time
  pub cells : cells_of all ≡ Ok row.cells
  pub few : cell_count all ≤ 1024
