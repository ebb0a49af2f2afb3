-- The cells at one place of a block, column after column.
use Rattle.std.specs.Prelude.{ℕ, ◌≤◌, Bool, not, List, [], ◌∷◌, length, map, Option, Some, None, is_some, if◌then◌else◌}
use Rattle.std.specs.Option.{option_and_then}
use Rattle.std.specs.List.{AllZip}
use Rattle.std.specs.List.Sorted.{IsStrictlySortedBy}
use Rattle.std.specs.Ordering.{nat_cmp, is_lt}
use Rattle.std.specs.Cmp.Lexicographic.{slice_cmp}
use Rattle.row_model.specs.declared.rows.Cell.{Cell}
use Rattle.row_model.specs.Texts.{text_cmp}
use Rattle.column_bytes.specs.Cells.{Coded}
use Rattle.row_blocks.specs.declared.column.BlockColumn.{BlockColumn}
use Rattle.row_blocks.specs.Columns.{IsSeen}
use Rattle.row_blocks.specs.Blocks.{value_in}

-- the names of cells
abbrev pub names_of : List Cell → List (List ℕ)
names_of cells = map (λ (c : Cell). c.name) cells

-- at most 1,024 cells, strictly ascending by name
pub record FitARow (cells : List Cell) : Type 0 where
  pub few : length cells ≤ 1024
  pub ascending : IsStrictlySortedBy (slice_cmp nat_cmp) (names_of cells)

-- each view has what the bytes of its column mean
abbrev pub AreSeen : List Coded → List BlockColumn → Type 0
AreSeen views columns = AllZip (λ (v : Coded) (c : BlockColumn). IsSeen v c.bytes) views columns

-- a placeholder for an index past the last column
abbrev pub no_column : BlockColumn
no_column = record { name = []; bytes = [] }

-- the name of the last cell so far, after one more column; None if the names do not ascend
abbrev pub next_of : List ℕ → List ℕ → Bool → Option (List ℕ)
next_of last name there = if not there then Some last else (if is_lt (text_cmp last name) then Some name else None)

abbrev pub last_name : ℕ → List BlockColumn → List ℕ → Option (List ℕ)
last_name i [] last = Some last
last_name i (c ∷ columns) last = option_and_then (last_name i columns) (next_of last c.name (is_some (value_in c.bytes i)))
