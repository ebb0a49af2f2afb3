-- What bytes mean as a column, told by a number of cells and a kind.
use Rattle.std.specs.Prelude.{◌≡◌, ℕ, List, Option, Some, None}
use Rattle.column_bytes.specs.declared.kind.Kind.{Kind}
use Rattle.column_bytes.specs.Column.{kind_in}
use Rattle.row_blocks.specs.Columns.{MeanCells}

-- Some: the bytes mean this number of cells of this kind; None: they mean no cells
abbrev pub TellsCells : List ℕ → Option (ℕ × Kind) → Type 0
TellsCells bytes (Some told) = MeanCells bytes told.0 × (kind_in bytes ≡ told.1)
TellsCells bytes None = (n : ℕ) → MeanCells bytes n → ⊥
