-- The columns of a block that were read, and the rows that are made of them.
use Rattle.std.specs.Prelude.{◌≡◌, ℕ, ◌-◌, Bool, ◌&&◌, List, length, map, filter, ℤ, pos, int_le, slice_index_or}
use Rattle.std.specs.List.{range_with_len}
use Rattle.row_model.specs.declared.rows.Row.{Row}
use Rattle.leaf_model.specs.declared.queries.Query.{Query}
use Rattle.column_bytes.specs.Cells.{cells_of, kind_of_book}
use Rattle.column_bytes.specs.Column.{kind_in}
use Rattle.row_blocks.specs.declared.column.BlockColumn.{BlockColumn}
use Rattle.row_blocks.specs.Columns.{cells_in}
use Rattle.row_blocks.specs.Blocks.{cells_at}
use Rattle.block_scan.specs.declared.reading.ReadColumn.{ReadColumn}

-- the view has what the bytes of the column mean: a cell for each row
pub record IsRead (rows : ℕ) (c : ReadColumn) : Type 0 where
  pub count : length c.view.codes ≡ rows
  pub cells : cells_of c.view ≡ cells_in c.column.now.bytes
  pub kind : kind_of_book c.view.book ≡ kind_in c.column.now.bytes

-- the columns that were read
abbrev pub columns_of : List ReadColumn → List BlockColumn
columns_of read = map (λ (c : ReadColumn). c.column.now) read

-- a time at or after the horizon, and in the query's range
abbrev pub is_wanted : Query → ℤ → ℤ → Bool
is_wanted q horizon t = int_le horizon t && (int_le q.from t && int_le t q.to)

-- the places from `skip` on whose times are wanted
abbrev pub wanted_places : Query → ℤ → List ℤ → ℕ → List ℕ
wanted_places q horizon times skip = filter (λ i. is_wanted q horizon (slice_index_or times i (pos 0))) (range_with_len skip (length times - skip))

-- the row at place i, with the cells of these columns
abbrev pub row_of : List ℤ → List BlockColumn → ℕ → Row
row_of times columns i = record { time = slice_index_or times i (pos 0); cells = cells_at i columns }
