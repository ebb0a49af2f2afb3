-- The rows of a block at or after a horizon.
use Rattle.std.specs.Prelude.{◌≡◌, ℕ, ◌<◌, length, slice_index_or, ℤ, pos, int_le, Some, Bool}
use Rattle.std.specs.List.{list_any}
use Rattle.row_model.specs.declared.rows.Value.TheVariants.{Int}
use Rattle.row_model.specs.declared.rows.Row.{Row}
use Rattle.column_bytes.specs.Cells.{Coded, cell_at}
use Rattle.row_blocks.specs.Blocks.{Block, rows_in, times_of}

-- some row of the block is at or after the horizon
unfoldable pub has_live : ℤ → Block → Bool
has_live horizon b = list_any (λ (row : Row). int_le horizon row.time) (rows_in b)

-- the time of the row at a place
abbrev pub time_at : Block → ℕ → ℤ
time_at b place = slice_index_or (times_of (rows_in b)) place (pos 0)

-- the view of a column has the times of the block
pub record AreTimesOf (view : Coded) (b : Block) : Type 0 where
  pub count : length view.codes ≡ b.rows
  pub each : (i : ℕ) → i < b.rows → cell_at view i ≡ Some (Int (time_at b i))
