-- What the tests of a block's columns tell decides whether they are one.
use Rattle.std.proofs.Common.{◌≡◌, ℕ, ◌<◌, List, [], ◌∷◌, length, map, slice_index_or, ℤ, pos, Option, Some, None, Err, refl, sym, ap, subst, ◌∙◌, arith}
use Rattle.std.specs.List.{AllByRecursion, range_with_len}
use Rattle.std.specs.List.Sorted.{IsStrictlySortedBy}
use Rattle.std.proofs.lemmas.List.{ext_get_or, get_or-map, length-map}
use Rattle.std.proofs.lemmas.List.Elements.{All-from_recursion, recursion_from_All}
use Rattle.std.proofs.lemmas.List.FromFn.{fill_by_all, get_or-map-range_with_len, length-map-range_with_len}
use Rattle.row_model.specs.declared.rows.Value.{Value}
use Rattle.row_model.specs.declared.rows.Value.TheVariants as values
use Rattle.row_model.specs.declared.rows.Row.{Row}
use Rattle.row_model.specs.Values.{IsRow, IsTime, time_name}
use Rattle.column_bytes.specs.Cells.{Coded, cell_at}
use Rattle.column_bytes.specs.Column.{kind_in}
use Rattle.column_bytes.specs.declared.kind.Kind.TheVariants.{Ints}
use Rattle.row_blocks.specs.declared.column.BlockColumn.{BlockColumn}
use Rattle.row_blocks.specs.Columns.{IsSeen, MeanCells, cells_in}
use Rattle.row_blocks.specs.Headings.{heading, heading_cmp}
use Rattle.row_blocks.specs.Blocks.{AreTimes, Block, IsBlock, IsOther, IsTimeCell, cells_at, row_at, rows_in, time_in_cell, times_of, value_in}
use Rattle.row_blocks.specs.declared.fault.BlockFault.{BlockFault}
use Rattle.row_blocks.specs.declared.fault.BlockFault.TheVariants.{NoMemory, NoRows}
use Rattle.time_range.specs.declared.times.TimeRange.{TimeRange}
use Rattle.time_range.specs.Ranges.{IsRangeOf}
use Rattle.row_blocks.specs.Places.{AreSeen, FitARow}
use Rattle.row_blocks.specs.Times.{AreFound}
use Rattle.row_blocks.specs.Deciding.{Decides}
use Rattle.row_blocks.proofs.Means.{counted, few_cells, one_count, some_cells}
use Rattle.row_blocks.proofs.Standing.{cells_are, seen_at}
use Rattle.row_blocks.proofs.Taking.{no_row}

abbrev pub with_columns : ℕ → BlockColumn → List BlockColumn → Block
with_columns n first others = record { rows = n; columns = first ∷ others }

-- the rules of a block, each on its own
pub record AreParts (n : ℕ) (first : BlockColumn) (others : List BlockColumn) : Type 0 where
  pub timed : AreTimes n first
  pub each : AllByRecursion (IsOther n) others
  pub ascend : IsStrictlySortedBy heading_cmp (map heading others)
  pub fit : (i : ℕ) → i < n → FitARow (cells_at i others)

time_fits : (v : Option Value) → IsTimeCell v → IsTime (time_in_cell v)
time_fits None is = absurd is
time_fits (Some (values.Int n)) is = is
time_fits (Some (values.Text text)) is = absurd is
time_fits (Some (values.Set members)) is = absurd is

row_stands : (n : ℕ) (first : BlockColumn) (others : List BlockColumn) (views : List Coded) → AreParts n first others → AreSeen views others → (i : ℕ) → i < n → IsRow (row_at (first ∷ others) i)
row_stands n first others views parts seen i within = record {
  time = time_fits (value_in first.bytes i) (parts.timed.each i within);
  few = (parts.fit i within).few;
  cells = cells_are n i views others within parts.each seen;
  ascending = (parts.fit i within).ascending;
}

pub block_is : (n : ℕ) (first : BlockColumn) (others : List BlockColumn) (views : List Coded) → AreParts n first others → AreSeen views others → IsBlock (with_columns n first others)
block_is n first others views parts seen = record {
  some = some_cells first.bytes n parts.timed.cells;
  few = few_cells first.bytes n parts.timed.cells;
  times = first;
  others = others;
  columns_are = refl;
  timed = parts.timed;
  each = parts.each;
  ascend = parts.ascend;
  rows_are = recursion_from_All IsRow (rows_in (with_columns n first others)) (λ k d within.
      let inside : k < n = omega (arith, length-map-range_with_len (row_at (first ∷ others)) 0 n, within) in
      subst IsRow (sym (get_or-map-range_with_len (row_at (first ∷ others)) 0 n k k d inside (omega arith))) (row_stands n first others views parts seen k inside));
}

-- the parts of a block are these
pub parts_are : (n : ℕ) (first : BlockColumn) (others : List BlockColumn) → IsBlock (with_columns n first others) → AreParts n first others
parts_are n first others is =
    let head : is.times ≡ first = let columns = is.columns_are in cc in
    let tail : is.others ≡ others = let columns = is.columns_are in cc in
    record {
      timed = subst (AreTimes n) head is.timed;
      each = subst (AllByRecursion (IsOther n)) tail is.each;
      ascend = subst (λ (l : List BlockColumn). IsStrictlySortedBy heading_cmp (map heading l)) tail is.ascend;
      fit = λ i within.
          let inside : i < length (rows_in (with_columns n first others)) = omega (arith, length-map-range_with_len (row_at (first ∷ others)) 0 n) in
          let row : IsRow (row_at (first ∷ others) i)
          = subst IsRow (get_or-map-range_with_len (row_at (first ∷ others)) 0 n i i no_row within (omega arith)) (All-from_recursion IsRow (rows_in (with_columns n first others)) is.rows_are i no_row inside) in
          record { few = row.few; ascending = row.ascending };
    }

map_map : {X Y Z : Type 0} (f : Y → Z) (g : X → Y) (xs : List X) → map f (map g xs) ≡ map (λ x. f (g x)) xs
map_map f g [] = refl
map_map f g (x ∷ xs) = ap (λ l. f (g x) ∷ l) (map_map f g xs)

-- the times that the first column holds are those of the rows
pub times_are : (n : ℕ) (first : BlockColumn) (others : List BlockColumn) (times : List ℤ) → AreTimes n first → cells_in first.bytes ≡ map (λ (t : ℤ). Some (values.Int t)) times
    → times_of (rows_in (with_columns n first others)) ≡ times
times_are n first others times timed cells =
    let sized : length times ≡ n = sym (length-map times (λ (t : ℤ). Some (values.Int t))) ∙ ap (λ (l : List (Option Value)). length l) (sym cells) ∙ counted first.bytes n timed.cells in
    map_map (λ (row : Row). row.time) (row_at (first ∷ others)) (range_with_len 0 n)
    ∙ sym (fill_by_all (λ i. (row_at (first ∷ others) i).time) times n (pos 0) sized (λ k within.
    sym (ap time_in_cell (ap (λ (l : List (Option Value)). slice_index_or l k None) cells
    ∙ get_or-map (λ (t : ℤ). Some (values.Int t)) times k (pos 0) None (omega (arith, sized, within))))))

pub range_is : (n : ℕ) (first : BlockColumn) (others : List BlockColumn) (times : List ℤ) (range : TimeRange) → AreTimes n first → cells_in first.bytes ≡ map (λ (t : ℤ). Some (values.Int t)) times
    → IsRangeOf times range → IsRangeOf (times_of (rows_in (with_columns n first others))) range
range_is n first others times range timed cells is = subst (λ (l : List ℤ). IsRangeOf l range) (sym (times_are n first others times timed cells)) is

pub some_times : (n : ℕ) (first : BlockColumn) (times : List ℤ) → AreTimes n first → cells_in first.bytes ≡ map (λ (t : ℤ). Some (values.Int t)) times → 0 < length times
some_times n first times timed cells =
    let sized : length times ≡ n = sym (length-map times (λ (t : ℤ). Some (values.Int t))) ∙ ap (λ (l : List (Option Value)). length l) (sym cells) ∙ counted first.bytes n timed.cells in
    omega (arith, sized, some_cells first.bytes n timed.cells)

-- ---- the times of a column of integers

pub times_told : (rows : ℕ) (c : BlockColumn) (view : Coded) (times : List ℤ) → c.name ≡ time_name → kind_in c.bytes ≡ Ints → MeanCells c.bytes rows → IsSeen view c.bytes
    → AreFound view (length view.codes) times → AreTimes rows c × (cells_in c.bytes ≡ map (λ (t : ℤ). Some (values.Int t)) times)
times_told rows c view times name kind mean seen found =
    let sized : length view.codes ≡ rows = one_count c.bytes (length view.codes) rows seen.mean mean in
    let at : (i : ℕ) → i < rows → (value_in c.bytes i ≡ Some (values.Int (slice_index_or times i (pos 0)))) × IsTimeCell (Some (values.Int (slice_index_or times i (pos 0))))
    = λ i within. let inside : i < length view.codes = omega (arith, sized, within) in
    (sym (seen_at view c.bytes seen i inside) ∙ (found.each i inside).0, (found.each i inside).1) in (
      record { name = name; kind = kind; cells = mean; each = λ i within. subst IsTimeCell (sym (at i within).0) (at i within).1 },
      ext_get_or None (cells_in c.bytes) (map (λ (t : ℤ). Some (values.Int t)) times)
          (counted c.bytes rows mean ∙ sym sized ∙ sym found.same ∙ sym (length-map times (λ (t : ℤ). Some (values.Int t))))
          (λ i within.
          let inside : i < rows = omega (arith, counted c.bytes rows mean, within) in
          (at i inside).0 ∙ sym (get_or-map (λ (t : ℤ). Some (values.Int t)) times i (pos 0) None (omega (arith, found.same, sized, inside)))),
    )

pub no_times : (rows : ℕ) (c : BlockColumn) (view : Coded) → MeanCells c.bytes rows → IsSeen view c.bytes
    → (((i : ℕ) → i < length view.codes → IsTimeCell (cell_at view i)) → ⊥) → AreTimes rows c → ⊥
no_times rows c view mean seen none timed =
    none (λ i within. subst IsTimeCell (sym (seen_at view c.bytes seen i within)) (timed.each i (omega (arith, one_count c.bytes (length view.codes) rows seen.mean mean, within))))

-- ---- columns that are refused

pub refused_as : (rows : ℕ) (columns : List BlockColumn) (fault : BlockFault) → Decides rows columns (Err fault) → fault ≡ NoRows → IsBlock (record { rows = rows; columns = columns }) → ⊥
refused_as rows columns NoRows none e is = none is
refused_as rows columns NoMemory none e is = absurd cc
