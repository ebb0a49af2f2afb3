-- A block: columns with one number of cells, which mean rows.
use Rattle.std.specs.Prelude.{◌≡◌, ℕ, ◌<◌, ◌≤◌, ◌==◌, List, [], ◌∷◌, map, slice_index_or, ℤ, pos, Option, Some, None, Bool, ◌&&◌, bytes_eq}
use Rattle.std.specs.List.{range_with_len, flat_map, AllByRecursion}
use Rattle.std.specs.List.Sorted.{IsStrictlySortedBy}
use Rattle.row_model.specs.declared.rows.Value.{Value}
use Rattle.row_model.specs.declared.rows.Value.TheVariants as values
use Rattle.row_model.specs.declared.rows.Cell.{Cell}
use Rattle.row_model.specs.declared.rows.Row.{Row}
use Rattle.row_model.specs.Values.{IsRow, IsCellName, IsTime, time_name}
use Rattle.column_bytes.specs.declared.kind.Kind.{Kind}
use Rattle.column_bytes.specs.declared.kind.Kind.TheVariants.{Ints}
use Rattle.column_bytes.specs.Column.{kind_in}
use Rattle.row_blocks.specs.declared.column.BlockColumn.{BlockColumn}
use Rattle.row_blocks.specs.Columns.{cells_in, MeanCells}
use Rattle.row_blocks.specs.Headings.{heading, heading_cmp, kind_place}

-- the number of rows, and the columns; that of the times comes first
pub record Block : Type 0 where
  pub rows : ℕ
  pub columns : List BlockColumn

-- ---- its rows

-- the cell of a column at place i; None if it is missing
abbrev pub value_in : List ℕ → ℕ → Option Value
value_in bytes i = slice_index_or (cells_in bytes) i None

-- the cell of a column at a place, with its name
abbrev pub cell_at_place : List ℕ → Option Value → List Cell
cell_at_place name None = []
cell_at_place name (Some value) = record { name = name; value = value } ∷ []

-- the cells at place i, in the order of the columns
abbrev pub cells_at : ℕ → List BlockColumn → List Cell
cells_at i columns = flat_map (λ (c : BlockColumn). cell_at_place c.name (value_in c.bytes i)) columns

-- the time that a cell holds
abbrev pub time_in_cell : Option Value → ℤ
time_in_cell (Some (values.Int n)) = n
time_in_cell v = pos 0

-- the row at place i: the first column has its time, the others have its cells
abbrev pub row_at : List BlockColumn → ℕ → Row
row_at [] i = record { time = pos 0; cells = [] }
row_at (times ∷ others) i = record { time = time_in_cell (value_in times.bytes i); cells = cells_at i others }

abbrev pub rows_in : Block → List Row
rows_in b = map (row_at b.columns) (range_with_len 0 b.rows)

-- ---- which columns are a block

-- the cell is there and is a time
abbrev pub IsTimeCell : Option Value → Type 0
IsTimeCell (Some (values.Int n)) = IsTime n
IsTimeCell v = ⊥

-- a column of integers named `time`; each cell is there and is a time
pub record AreTimes (rows : ℕ) (c : BlockColumn) : Type 0 where
  pub name : c.name ≡ time_name
  pub kind : kind_in c.bytes ≡ Ints
  pub cells : MeanCells c.bytes rows
  pub each : (i : ℕ) → i < rows → IsTimeCell (value_in c.bytes i)

-- a column with a cell for each row, under a name that a cell may have
pub record IsOther (rows : ℕ) (c : BlockColumn) : Type 0 where
  pub name : IsCellName c.name
  pub cells : MeanCells c.bytes rows

-- a block: 1 to 65,536 rows; the column of the times first, the others ascending by name and then by kind; at each
-- place at most 1,024 cells, no two with the same name
pub record IsBlock (b : Block) : Type 0 where
  pub some : 0 < b.rows
  pub few : b.rows ≤ 65536
  pub times : BlockColumn
  pub others : List BlockColumn
  pub columns_are : b.columns ≡ times ∷ others
  pub timed : AreTimes b.rows times
  pub each : AllByRecursion (IsOther b.rows) others
  pub ascend : IsStrictlySortedBy heading_cmp (map heading others)
  pub rows_are : AllByRecursion IsRow (rows_in b)

-- ---- what callers ask of a block

abbrev pub times_of : List Row → List ℤ
times_of rows = map (λ (row : Row). row.time) rows

abbrev pub is_kind : Kind → Kind → Bool
is_kind a b = kind_place a == kind_place b

abbrev pub is_column : List ℕ → Kind → BlockColumn → Bool
is_column name kind c = bytes_eq c.name name && is_kind (kind_in c.bytes) kind
