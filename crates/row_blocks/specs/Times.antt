-- What the tests of a block's columns answer.
use Rattle.std.specs.Prelude.{◌≡◌, ℕ, ◌<◌, List, length, map, slice_index_or, ℤ, pos, Option, Some, None}
use Rattle.std.specs.List.{AllByRecursion}
use Rattle.row_model.specs.declared.rows.Value.TheVariants.{Int}
use Rattle.column_bytes.specs.Cells.{Coded, cell_at}
use Rattle.row_blocks.specs.declared.column.BlockColumn.{BlockColumn}
use Rattle.row_blocks.specs.Columns.{cells_in}
use Rattle.row_blocks.specs.Blocks.{AreTimes, IsOther, IsTimeCell}
use Rattle.row_blocks.specs.Places.{AreSeen}

-- the first n cells of a column are these times
pub record AreFound (view : Coded) (n : ℕ) (times : List ℤ) : Type 0 where
  pub same : length times ≡ n
  pub each : (i : ℕ) → i < n → (cell_at view i ≡ Some (Int (slice_index_or times i (pos 0)))) × IsTimeCell (Some (Int (slice_index_or times i (pos 0))))

-- Some: the column has these times; None: it is not a column of times
abbrev pub TellTimes : ℕ → BlockColumn → Option (List ℤ) → Type 0
TellTimes rows c None = AreTimes rows c → ⊥
TellTimes rows c (Some times) = AreTimes rows c × (cells_in c.bytes ≡ map (λ (t : ℤ). Some (Int t)) times)

-- Some: each column is one of other cells, and these are their meanings; None: one is no such column
abbrev pub TellOthers : ℕ → List BlockColumn → Option (List Coded) → Type 0
TellOthers rows columns None = AllByRecursion (IsOther rows) columns → ⊥
TellOthers rows columns (Some views) = AllByRecursion (IsOther rows) columns × AreSeen views columns
