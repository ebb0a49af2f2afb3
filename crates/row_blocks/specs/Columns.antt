-- The meaning of any bytes as a column. Their fields decide it, not what an encoder would write.
use Rattle.std.specs.Prelude.{◌≡◌, ℕ, ◌<◌, List, length, Option, None, IfSome, unwrap_or, slice_index, slice_index_or}
use Rattle.row_model.specs.declared.rows.Value.{Value}
use Rattle.row_model.specs.Values.{IsValue}
use Rattle.column_bytes.specs.declared.form.Form.{Form}
use Rattle.column_bytes.specs.declared.form.Form.TheVariants.{Offset}
use Rattle.column_bytes.specs.Cells.{Coded, cells_of, kind_of_book}
use Rattle.column_bytes.specs.Column.{HasCells, coded_in, form_at, kind_in}

-- the form that the first two bytes name; Offset if they name none
abbrev pub form_in : List ℕ → Form
form_in bytes = unwrap_or (form_at (slice_index bytes 0) (slice_index bytes 1)) Offset

-- the cells that the bytes mean, if they mean any
unfoldable pub cells_in : List ℕ → List (Option Value)
cells_in bytes = cells_of (coded_in (form_in bytes) bytes)

-- the bytes mean n cells
unfoldable pub MeanCells : List ℕ → ℕ → Type 0
MeanCells bytes n = HasCells bytes n (cells_in bytes)

-- the view has the cells that the bytes mean, and the kind of the column
pub record IsSeen (view : Coded) (bytes : List ℕ) : Type 0 where
  pub mean : MeanCells bytes (length view.codes)
  pub cells : cells_of view ≡ cells_in bytes
  pub kind : kind_of_book view.book ≡ kind_in bytes
  pub values : (i : ℕ) → i < length view.codes → IfSome (slice_index_or (cells_in bytes) i None) IsValue
