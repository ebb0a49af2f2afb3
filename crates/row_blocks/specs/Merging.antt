-- How rows are taken apart into columns: the cells that are left of each row, and the next column.
use Rattle.std.specs.Prelude.{◌≡◌, ℕ, ◌+◌, ◌<◌, ◌≤◌, List, [], ◌∷◌, ◌++◌, length, map, slice_index_or, Option, Some, None, if◌then◌else◌, ⊤}
use Rattle.std.specs.List.{AllByRecursion}
use Rattle.std.specs.List.Sorted.{IsStrictlySortedBy}
use Rattle.std.specs.declared.cmp.Ordering.TheVariants.{Less, Greater}
use Rattle.std.specs.Ordering.{is_eq, is_gt, nat_cmp}
use Rattle.std.specs.Cmp.Lexicographic.{slice_cmp}
use Rattle.row_model.specs.declared.rows.Value.{Value}
use Rattle.row_model.specs.declared.rows.Cell.{Cell}
use Rattle.row_model.specs.declared.rows.Row.{Row}
use Rattle.leaf_model.specs.declared.lent_cells.LentCells.{LentCells}
use Rattle.leaf_model.specs.Lent.{each_cells}
use Rattle.row_model.specs.Values.{IsCell}
use Rattle.row_blocks.specs.declared.column.BlockColumn.{BlockColumn}
use Rattle.row_blocks.specs.Columns.{MeanCells, cells_in}
use Rattle.row_blocks.specs.Headings.{Heading, heading, heading_of, heading_cmp}
use Rattle.row_blocks.specs.Blocks.{IsOther, cells_at}

abbrev pub cells_of_rows : List Row → List (List Cell)
cells_of_rows rows = map (λ (row : Row). row.cells) rows

-- the value of a row's first cell, if it has this heading
abbrev pub front_value : Heading → List Cell → Option Value
front_value h [] = None
front_value h (c ∷ cells) = if is_eq (heading_cmp h (heading_of c)) then Some c.value else None

-- the row's cells without the first, if that has this heading
abbrev pub rest_after : Heading → List Cell → List Cell
rest_after h [] = []
rest_after h (c ∷ cells) = if is_eq (heading_cmp h (heading_of c)) then cells else c ∷ cells

-- of two first cells the one with the earlier heading; the former of two with the same
abbrev pub earlier : Option Cell → Option Cell → Option Cell
earlier None b = b
earlier (Some a) None = Some a
earlier (Some a) (Some b) = if is_gt (heading_cmp (heading_of a) (heading_of b)) then Some b else Some a

abbrev pub front : List Cell → Option Cell
front [] = None
front (c ∷ cells) = Some c

-- the first cell, if there is one, has no earlier heading
abbrev pub IsNotBefore : Heading → List Cell → Type 0
IsNotBefore h [] = ⊤
IsNotBefore h (c ∷ cells) = heading_cmp h (heading_of c) ≡ Greater → ⊥

-- the first cell, if there is one, has a later heading
abbrev pub IsBehind : Heading → List Cell → Type 0
IsBehind h [] = ⊤
IsBehind h (c ∷ cells) = heading_cmp h (heading_of c) ≡ Less

-- the first cell is this one
abbrev pub BeginsWith : Cell → List Cell → Type 0
BeginsWith c [] = ⊥
BeginsWith c (d ∷ cells) = d ≡ c

-- some row has this first cell
abbrev pub HasFront : Cell → List (List Cell) → Type 0
HasFront c rests = (i : ℕ) × (i < length rests) × BeginsWith c (slice_index_or rests i [])

-- a first cell with the earliest heading, or None if no row has a cell
abbrev pub IsEarliest : Option Cell → List (List Cell) → Type 0
IsEarliest None rests = (i : ℕ) → i < length rests → slice_index_or rests i [] ≡ []
IsEarliest (Some c) rests = HasFront c rests × ((i : ℕ) → i < length rests → IsNotBefore (heading_of c) (slice_index_or rests i []))

-- the number of cells of all rows
abbrev pub cells_count : List (List Cell) → ℕ
cells_count [] = 0
cells_count (cells ∷ rests) = length cells + cells_count rests

-- these columns were taken off the rows, each with at least one cell; `rests` are the cells that are left of each row
pub record AreTaken (rows : List Row) (columns : List BlockColumn) (rests : List (List Cell)) : Type 0 where
  pub same : length rests ≡ length rows
  pub each : AllByRecursion (IsOther (length rows)) columns
  pub ascend : IsStrictlySortedBy heading_cmp (map heading columns)
  pub behind : AllByRecursion (λ (c : BlockColumn). (i : ℕ) → i < length rests → IsBehind (heading c) (slice_index_or rests i [])) columns
  pub taken : (i : ℕ) → i < length rows → cells_at i columns ++ slice_index_or rests i [] ≡ slice_index_or (cells_of_rows rows) i []
  pub few : length columns + cells_count rests ≤ cells_count (cells_of_rows rows)

-- the columns hold the cells of the rows, and are at most as many as the cells
pub record HoldCells (rows : List Row) (columns : List BlockColumn) : Type 0 where
  pub each : AllByRecursion (IsOther (length rows)) columns
  pub ascend : IsStrictlySortedBy heading_cmp (map heading columns)
  pub cells : (i : ℕ) → i < length rows → cells_at i columns ≡ slice_index_or (cells_of_rows rows) i []
  pub few : length columns ≤ cells_count (cells_of_rows rows)

-- valid cells, strictly ascending by name
pub record AreCells (cells : List Cell) : Type 0 where
  pub each : AllByRecursion IsCell cells
  pub ascending : IsStrictlySortedBy (slice_cmp nat_cmp) (map (λ (c : Cell). c.name) cells)

-- for each row the value of its first cell, if it has this heading
abbrev pub fronts : Heading → List LentCells → List (Option Value)
fronts h rests = map (front_value h) (each_cells rests)

-- no row has a first cell with an earlier heading; `nexts` are the cells without those of this heading
pub record ArePassed (h : Heading) (rests nexts : List (List Cell)) : Type 0 where
  pub first : AllByRecursion (IsNotBefore h) rests
  pub left : nexts ≡ map (rest_after h) rests

-- the column has the first cells with the earliest heading; `nexts` are the cells without these
pub record IsNext (rests nexts : List (List Cell)) (column : BlockColumn) : Type 0 where
  pub cell : Cell
  pub first : IsEarliest (Some cell) rests
  pub under : heading column ≡ heading_of cell
  pub means : MeanCells column.bytes (length rests)
  pub cells : cells_in column.bytes ≡ map (front_value (heading_of cell)) rests
  pub left : nexts ≡ map (rest_after (heading_of cell)) rests

-- no row has a cell
abbrev pub AreBare : List Row → Type 0
AreBare rows = AllByRecursion (λ (row : Row). row.cells ≡ []) rows
