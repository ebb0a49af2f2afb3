-- The cells of a name at the places of a block, decoded at once.
use Rattle.std.specs.Prelude.{◌≡◌, ℕ, ◌<◌, ⊤, Bool, true, false, List, length, map, pos, slice_index, slice_index_or, Option, Some, None, if◌then◌else◌}
use Rattle.std.specs.List.{list_all, range_with_len}
use Rattle.row_model.specs.declared.rows.Value.{Value}
use Rattle.row_model.specs.declared.rows.Value.TheVariants as values
use Rattle.row_model.specs.declared.rows.Row.{Row}
use Rattle.leaf_model.specs.declared.queries.Cond.{Cond}
use Rattle.leaf_model.specs.Groups.{cell_value, cond_accepts, value_of}
use Rattle.column_bytes.specs.Cells.{entries, no_value}
use Rattle.row_blocks.specs.Blocks.{cells_at, value_in}
use Rattle.block_scan.specs.declared.reading.ReadColumn.{ReadColumn}
use Rattle.block_scan.specs.declared.finding.NamedColumns.{NamedColumns}
use Rattle.block_scan.specs.declared.finding.NamedColumns.TheVariants.{Nowhere, Once, Twice}
use Rattle.block_scan.specs.declared.decoded.Decoded.{Decoded}
use Rattle.block_scan.specs.declared.decoded.Decoded.TheVariants.{Missing, Ints, Codes}
use Rattle.block_scan.specs.Reads.{IsRead, columns_of}

-- no column has the name; one has it, with this cell at each place; or more than one has it
abbrev pub IsNamed : ℕ → List ℕ → List ReadColumn → NamedColumns → Type 0
IsNamed rows name read Nowhere = (i : ℕ) → cell_value name (cells_at i (columns_of read)) ≡ None
IsNamed rows name read (Once c) = IsRead rows c.now × ((i : ℕ) → cell_value name (cells_at i (columns_of read)) ≡ value_in c.now.column.now.bytes i)
IsNamed rows name read Twice = ⊤

-- the decoded cell at place i
abbrev pub decoded_at : Decoded → ℕ → Option Value
decoded_at Missing i = None
decoded_at (Ints d) i = if slice_index_or d.present.items i false then Some (values.Int (slice_index_or d.values.items i (pos 0))) else None
decoded_at (Codes d) i = if slice_index_or d.present.items i false then Some (slice_index_or (entries d.view.now.book) (slice_index d.codes.items i) no_value) else None

-- a cell was decoded for each row, and each code that is there stands for a value
abbrev pub IsSized : ℕ → Decoded → Type 0
IsSized rows Missing = ⊤
IsSized rows (Ints d) = (length d.present.items ≡ rows) × (length d.values.items ≡ rows)
IsSized rows (Codes d) = (length d.present.items ≡ rows) × (length d.codes.items ≡ rows)
    × ((i : ℕ) → i < rows → slice_index_or d.present.items i false ≡ true → slice_index d.codes.items i < length (entries d.view.now.book))

-- at each place it has the cell that is there
pub record IsDecoded (rows : ℕ) (there : ℕ → Option Value) (d : Decoded) : Type 0 where
  pub sized : IsSized rows d
  pub each : (i : ℕ) → i < rows → there i ≡ decoded_at d i

-- each condition holds of a row
abbrev pub conds_hold : List Cond → Row → Bool
conds_hold conds row = list_all (λ (c : Cond). cond_accepts c (value_of c.name row)) conds

-- for each code whether its value meets the condition
abbrev pub accepted_codes : Cond → List Value → List Bool
accepted_codes c entries = map (λ code. cond_accepts c (Some (slice_index_or entries code no_value))) (range_with_len 0 (length entries))
