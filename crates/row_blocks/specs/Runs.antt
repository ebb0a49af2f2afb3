-- Cells, each with the place of its row, sorted by heading.
use Rattle.std.specs.Prelude.{◌≡◌, ℕ, ◌==◌, Bool, false, List, [], ◌∷◌, map, slice_index_or, Option, None, ⊤}
use Rattle.std.specs.List.{AllByRecursion, filter, last_or}
use Rattle.std.specs.Ordering.{is_eq, is_lt}
use Rattle.row_model.specs.declared.rows.Value.{Value}
use Rattle.row_model.specs.declared.rows.Cell.{Cell}
use Rattle.row_model.specs.declared.rows.Row.{Row}
use Rattle.leaf_model.specs.Lent.{lent_cell}
use Rattle.row_blocks.specs.declared.column.BlockColumn.{BlockColumn}
use Rattle.row_blocks.specs.declared.runs.PlacedCell.{PlacedCell}
use Rattle.row_blocks.specs.Headings.{Heading, heading_cmp, heading_of}
use Rattle.row_blocks.specs.Merging.{AreTaken}

-- the cell belongs to the row at place i
abbrev pub is_at : ℕ → PlacedCell → Bool
is_at i p = p.place == i

-- the cells of the row at place i
abbrev pub row_cells : ℕ → List PlacedCell → List Cell
row_cells i cells = map (λ (p : PlacedCell). lent_cell p.cell) (filter (is_at i) cells)

-- the cells are exactly those that are left of each row
abbrev pub HoldRests : List (List Cell) → List PlacedCell → Type 0
HoldRests rests cells = (i : ℕ) → row_cells i cells ≡ slice_index_or rests i []

-- a cell has an earlier heading than another
abbrev pub comes_before : PlacedCell → PlacedCell → Bool
comes_before p q = is_lt (heading_cmp (heading_of (lent_cell p.cell)) (heading_of (lent_cell q.cell)))

-- no element is less than an earlier one
abbrev pub Rises : {X : Type 0} → (X → X → Bool) → List X → Type 0
Rises lt [] = ⊤
Rises lt (x ∷ xs) = AllByRecursion (λ y. lt y x ≡ false) xs × Rises lt xs

-- no cell has an earlier heading than a cell before it
abbrev pub Rise : List PlacedCell → Type 0
Rise cells = Rises comes_before cells

-- a cell has this heading
abbrev pub comes_under : Heading → PlacedCell → Bool
comes_under h p = is_eq (heading_cmp h (heading_of (lent_cell p.cell)))

-- the value of the last cell
abbrev pub last_value : List Cell → Option Value
last_value cells = last_or None (map (λ (c : Cell). c.value) cells)

-- these columns were taken off the rows; `ps` are the cells that are left, sorted by heading
pub record AreLeft (rows : List Row) (columns : List BlockColumn) (ps : List PlacedCell) : Type 0 where
  pub rests : List (List Cell)
  pub taken : AreTaken rows columns rests
  pub rise : Rise ps
  pub hold : HoldRests rests ps
