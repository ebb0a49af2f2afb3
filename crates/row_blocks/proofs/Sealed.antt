-- The times and the columns of the other cells are a block, which means the rows.
use Rattle.std.proofs.Common.{◌≡◌, ℕ, zero, suc, ◌<◌, ◌≤◌, List, [], ◌∷◌, length, map, slice_index_or, ℤ, pos, Bool, true, replicate, is_some, unwrap_or, Option, Some, None, refl, sym, ap, subst, ◌∙◌, arith}
use Rattle.std.specs.List.{AllByRecursion}
use Rattle.std.specs.List.Sorted.{IsStrictlySortedBy}
use Rattle.std.proofs.lemmas.List.{get_or-map, length-map}
use Rattle.std.proofs.lemmas.List.FromFn.{fill_by_all}
use Rattle.row_model.specs.declared.rows.Value.{Value}
use Rattle.row_model.specs.declared.rows.Value.TheVariants.{Int}
use Rattle.row_model.specs.declared.rows.Cell.{Cell}
use Rattle.row_model.specs.declared.rows.Row.{Row}
use Rattle.row_model.specs.Values.{IsRow, time_name}
use Rattle.column_bytes.specs.Coding.{AreIntegers}
use Rattle.column_bytes.specs.Column.{kind_in}
use Rattle.column_bytes.specs.declared.kind.Kind.TheVariants.{Ints}
use Rattle.row_blocks.specs.declared.column.BlockColumn.{BlockColumn}
use Rattle.row_blocks.specs.Columns.{MeanCells, cells_in}
use Rattle.row_blocks.specs.Blocks.{Block, IsBlock, IsTimeCell, row_at, rows_in, time_in_cell, times_of, value_in}
use Rattle.time_range.specs.declared.times.TimeRange.{TimeRange}
use Rattle.row_blocks.specs.Merging.{AreBare, HoldCells, cells_of_rows}
use Rattle.time_range.specs.Ranges.{IsRangeOf}
use Rattle.row_blocks.proofs.Taking.{cells_at_row, no_row, row_is}

-- as many times as rows
pub counted_times : (rows : List Row) (times : List ℤ) → times ≡ times_of rows → length times ≡ length rows
counted_times rows times same = ap (λ (l : List ℤ). length l) same ∙ length-map rows (λ (row : Row). row.time)

-- where no row has a cell, no column holds them
none_there : (rows : List Row) (i : ℕ) → AreBare rows → slice_index_or (cells_of_rows rows) i [] ≡ []
none_there [] i bare = refl
none_there (row ∷ rows) zero bare = bare.0
none_there (row ∷ rows) (suc i) bare = none_there rows i bare.1

pub hold_none : (rows : List Row) → AreBare rows → HoldCells rows []
unfolding IsStrictlySortedBy
hold_none rows bare = record {
  each = tt;
  ascend = tt;
  cells = λ i within. sym (none_there rows i bare);
  few = omega arith;
}

abbrev pub time_cells : List ℤ → List (Option Value)
time_cells times = map (λ (t : ℤ). Some (Int t)) times

-- the times are integers, and each is there
pub all_marked : (times : List ℤ) → map is_some (time_cells times) ≡ replicate (length times) true
all_marked [] = refl
all_marked (t ∷ times) = ap (λ (l : List Bool). true ∷ l) (all_marked times)

some_int : (t : ℤ) (value : Value) → Some (Int t) ≡ Some value → value ≡ Int t
some_int t value e = sym (ap (λ (o : Option Value). unwrap_or o (Int t)) e)

pub are_integers : (times : List ℤ) → AreIntegers (time_cells times) times
are_integers times = record {
  same = sym (length-map times (λ (t : ℤ). Some (Int t)));
  each = λ i value within e.
      let inside : i < length times = omega (arith, within, length-map times (λ (t : ℤ). Some (Int t))) in
      some_int (slice_index_or times i (pos 0)) value (sym (get_or-map (λ (t : ℤ). Some (Int t)) times i (pos 0) None inside) ∙ e);
}

-- a column of the times of some rows
pub record HoldsTimes (rows : List Row) (column : BlockColumn) : Type 0 where
  pub name : column.name ≡ time_name
  pub kind : kind_in column.bytes ≡ Ints
  pub means : MeanCells column.bytes (length rows)
  pub cells : cells_in column.bytes ≡ map (λ (t : ℤ). Some (Int t)) (times_of rows)

pub holds_times : (rows : List Row) (times : List ℤ) (column : BlockColumn) → times ≡ times_of rows
    → column.name ≡ time_name → kind_in column.bytes ≡ Ints → MeanCells column.bytes (length times) → cells_in column.bytes ≡ map (λ (t : ℤ). Some (Int t)) times → HoldsTimes rows column
holds_times rows times column same name kind means held = record {
  name = name;
  kind = kind;
  means = subst (MeanCells column.bytes) (ap (λ (l : List ℤ). length l) same ∙ length-map rows (λ (row : Row). row.time)) means;
  cells = held ∙ ap (λ (l : List ℤ). map (λ (t : ℤ). Some (Int t)) l) same;
}

abbrev pub block_of : List Row → BlockColumn → List BlockColumn → Block
block_of rows times others = record { rows = length rows; columns = times ∷ others }

time_at : (rows : List Row) (column : BlockColumn) (i : ℕ) → HoldsTimes rows column → i < length rows → value_in column.bytes i ≡ Some (Int (slice_index_or rows i no_row).time)
time_at rows column i holds within =
    let inside : i < length (times_of rows) = omega (arith, length-map rows (λ (row : Row). row.time)) in
    ap (λ (all : List (Option Value)). slice_index_or all i None) holds.cells
    ∙ get_or-map (λ (t : ℤ). Some (Int t)) (times_of rows) i (pos 0) None inside
    ∙ ap (λ (t : ℤ). Some (Int t)) (get_or-map (λ (row : Row). row.time) rows i no_row (pos 0) within)

pub means_rows : (rows : List Row) (times : BlockColumn) (others : List BlockColumn) → HoldsTimes rows times → HoldCells rows others → rows_in (block_of rows times others) ≡ rows
means_rows rows times others timed hold =
    sym (fill_by_all (row_at (times ∷ others)) rows (length rows) no_row refl (λ k within.
    let row = slice_index_or rows k no_row in
    ap (λ (cells : List Cell). record { time = row.time; cells = cells }) (sym (hold.cells k within ∙ cells_at_row rows k within))
    ∙ ap (λ (t : ℤ). record { time = t; cells = (row_at (times ∷ others) k).cells }) (sym (ap time_in_cell (time_at rows times k timed within)))))

pub sealed : (rows : List Row) (times : BlockColumn) (others : List BlockColumn) → 0 < length rows → length rows ≤ 65536 → AllByRecursion IsRow rows
    → HoldsTimes rows times → HoldCells rows others → IsBlock (block_of rows times others)
sealed rows times others some few are timed hold = record {
  some = some;
  few = few;
  times = times;
  others = others;
  columns_are = refl;
  timed = record {
    name = timed.name;
    kind = timed.kind;
    cells = timed.means;
    each = λ i within. subst IsTimeCell (sym (time_at rows times i timed within)) (row_is rows i are within).time;
  };
  each = hold.each;
  ascend = hold.ascend;
  rows_are = subst (AllByRecursion IsRow) (sym (means_rows rows times others timed hold)) are;
}

pub sealed_range : (rows : List Row) (times : BlockColumn) (others : List BlockColumn) (range : TimeRange) → HoldsTimes rows times → HoldCells rows others
    → IsRangeOf (times_of rows) range → IsRangeOf (times_of (rows_in (block_of rows times others))) range
sealed_range rows times others range timed hold is = subst (λ (all : List Row). IsRangeOf (times_of all) range) (sym (means_rows rows times others timed hold)) is
