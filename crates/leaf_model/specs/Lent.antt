-- What borrowed rows, cells and values mean.
use Rattle.std.specs.Prelude.{ℕ, List, [], ◌∷◌, map, Option, Some, None, option_map}
use Rattle.std.specs.Borrow.{Bor}
use Rattle.row_model.specs.declared.rows.Value.{Value}
use Rattle.row_model.specs.declared.rows.Value.TheVariants as values
use Rattle.row_model.specs.declared.rows.Cell.{Cell}
use Rattle.row_model.specs.declared.rows.Row.{Row}
use Rattle.leaf_model.specs.declared.fronts.SpelledTexts.{SpelledTexts}
use Rattle.leaf_model.specs.declared.lent_texts.LentTexts.{LentTexts}
use Rattle.leaf_model.specs.declared.lent_texts.LentTexts.TheVariants as texts
use Rattle.leaf_model.specs.declared.lent_cells.LentValue.{LentValue}
use Rattle.leaf_model.specs.declared.lent_cells.LentValue.TheVariants as lent
use Rattle.leaf_model.specs.declared.lent_cells.LentCell.{LentCell}
use Rattle.leaf_model.specs.declared.fronts.SpelledCells.{SpelledCells}
use Rattle.leaf_model.specs.declared.lent_cells.LentCells.{LentCells}
use Rattle.leaf_model.specs.declared.lent_cells.LentCells.TheVariants as cells
use Rattle.leaf_model.specs.declared.lent_rows.LentRow.{LentRow}
use Rattle.leaf_model.specs.declared.fronts.SpelledRows.{SpelledRows}
use Rattle.leaf_model.specs.declared.lent_rows.LentRows.{LentRows}
use Rattle.leaf_model.specs.declared.lent_rows.LentRows.TheVariants as rows
use Rattle.leaf_model.specs.Reading.{texts_at, rows_at}
use Rattle.leaf_model.specs.Fronts.{front_of, any_cells_at}

-- ---- what borrowed values mean

-- texts spelled at the start of bytes, and texts in either form
abbrev pub spelled_texts : SpelledTexts → List (List ℕ)
spelled_texts t = front_of (texts_at t.count t.bytes.now)

abbrev pub lent_texts : LentTexts → List (List ℕ)
lent_texts (texts.Owned texts) = texts.now
lent_texts (texts.Spelled texts) = spelled_texts texts

-- a value
abbrev pub lent_value : LentValue → Value
lent_value (lent.Int n) = values.Int n
lent_value (lent.Text text) = values.Text text.now
lent_value (lent.Set members) = values.Set (lent_texts members)

-- a cell
abbrev pub lent_cell : LentCell → Cell
lent_cell c = record { name = c.name.now; value = lent_value c.value }

-- cells spelled at the start of bytes, and cells in either form
abbrev pub spelled_cells : SpelledCells → List Cell
spelled_cells c = front_of (any_cells_at c.count c.bytes.now)

abbrev pub lent_cells : LentCells → List Cell
lent_cells (cells.Owned cells) = cells.now
lent_cells (cells.Spelled cells) = spelled_cells cells

-- a row
abbrev pub lent_row : LentRow → Row
lent_row row = record { time = row.time; cells = lent_cells row.cells }

-- rows spelled at the start of bytes, and rows in either form
abbrev pub spelled_rows : SpelledRows → List Row
spelled_rows r = front_of (rows_at r.count r.bytes.now)

abbrev pub lent_rows : LentRows → List Row
lent_rows (rows.Owned rows) = rows.now
lent_rows (rows.Spelled rows) = spelled_rows rows

-- ---- lists of borrowed values

-- the values, each of them present or not
abbrev pub each_value : List (Option LentValue) → List (Option Value)
each_value cells = map (option_map lent_value) cells

-- the cells of each row
abbrev pub each_cells : List LentCells → List (List Cell)
each_cells rests = map lent_cells rests

-- rows
abbrev pub each_row : List LentRow → List Row
each_row rows = map lent_row rows

-- ---- lists from their first element and the others, or from None

abbrev pub texts_before : Option (Bor (List ℕ) × SpelledTexts) → List (List ℕ)
texts_before None = []
texts_before (Some parts) = parts.0.now ∷ spelled_texts parts.1

abbrev pub texts_parted : Option (Bor (List ℕ) × LentTexts) → List (List ℕ)
texts_parted None = []
texts_parted (Some parts) = parts.0.now ∷ lent_texts parts.1

abbrev pub cells_before : Option (LentCell × SpelledCells) → List Cell
cells_before None = []
cells_before (Some parts) = lent_cell parts.0 ∷ spelled_cells parts.1

abbrev pub cells_parted : Option (LentCell × LentCells) → List Cell
cells_parted None = []
cells_parted (Some parts) = lent_cell parts.0 ∷ lent_cells parts.1

abbrev pub lent_rows_before : Option (LentRow × SpelledRows) → List Row
lent_rows_before None = []
lent_rows_before (Some parts) = lent_row parts.0 ∷ spelled_rows parts.1

abbrev pub rows_parted : Option (LentRow × LentRows) → List Row
rows_parted None = []
rows_parted (Some parts) = lent_row parts.0 ∷ lent_rows parts.1
