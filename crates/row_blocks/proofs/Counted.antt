-- Counts of the cells at each place, one column after the other.
use Rattle.std.proofs.Common.{◌≡◌, ℕ, ◌+◌, ◌<◌, ◌≤◌, List, length, take, drop, slice_index, slice_index_or, is_some, refl, sym, ap, subst, ◌∙◌, arith}
use Rattle.std.specs.Int.{from_bool}
use Rattle.std.specs.List.{AllByRecursion}
use Rattle.std.proofs.lemmas.List.{length-append, take-append-drop}
use Rattle.std.proofs.lemmas.List.Concat.{flat_map-append}
use Rattle.std.proofs.lemmas.List.Elements.{All-from_recursion}
use Rattle.row_model.specs.declared.rows.Cell.{Cell}
use Rattle.column_bytes.specs.Cells.{Coded, cell_at}
use Rattle.row_blocks.specs.declared.column.BlockColumn.{BlockColumn}
use Rattle.row_blocks.specs.Columns.{IsSeen}
use Rattle.row_blocks.specs.Blocks.{IsOther, cell_at_place, cells_at, value_in}
use Rattle.row_blocks.specs.Counts.{IsOver}
use Rattle.row_blocks.specs.Places.{AreSeen, no_column}
use Rattle.row_blocks.proofs.Standing.{one_more_cell, seen_at, seen_count, seen_pair}

-- a column's view, found by its place
pub record IsViewAt (rows : ℕ) (columns : List BlockColumn) (k : ℕ) (view : Coded) : Type 0 where
  pub seen : IsSeen view (slice_index_or columns k no_column).bytes
  pub count : length view.codes ≡ rows

pub view_at : (rows : ℕ) (views : List Coded) (columns : List BlockColumn) (k : ℕ) (view : Coded) → AllByRecursion (IsOther rows) columns → AreSeen views columns → k < length columns
    → view ≡ slice_index_or views k view → IsViewAt rows columns k view
view_at rows views columns k view are seen within at =
    let sees : IsSeen view (slice_index_or columns k no_column).bytes
    = subst (λ (v : Coded). IsSeen v (slice_index_or columns k no_column).bytes) (sym at) (seen_pair views columns k view no_column seen within) in
    record { seen = sees; count = seen_count rows view (slice_index_or columns k no_column) sees (All-from_recursion (IsOther rows) columns are k no_column within) }

-- one column more
pub column_counted : (rows i k : ℕ) (columns : List BlockColumn) (view : Coded) (before after : ℕ) → k < length columns → IsViewAt rows columns k view → i < rows
    → after ≡ before + from_bool (is_some (cell_at view i)) → before ≡ length (cells_at i (take k columns)) → after ≡ length (cells_at i (take (k + 1) columns))
column_counted rows i k columns view before after within is inside more was =
    more ∙ ap (λ (n : ℕ). n + from_bool (is_some (cell_at view i))) was
    ∙ ap (λ v. length (cells_at i (take k columns)) + from_bool (is_some v)) (seen_at view (slice_index_or columns k no_column).bytes is.seen i (omega (arith, is.count, inside)))
    ∙ one_more_cell i k columns within

-- the first columns have no more cells at a place than all have
first_cells : (i k : ℕ) (columns : List BlockColumn) → length (cells_at i (take k columns)) ≤ length (cells_at i columns)
first_cells i k columns =
    let parts : length (cells_at i columns) ≡ length (cells_at i (take k columns)) + length (cells_at i (drop k columns))
    = ap (λ (l : List BlockColumn). length (cells_at i l)) (sym (take-append-drop k columns))
    ∙ ap (λ (l : List Cell). length l) (flat_map-append (λ (d : BlockColumn). cell_at_place d.name (value_in d.bytes i)) (take k columns) (drop k columns))
    ∙ length-append (cells_at i (take k columns)) (cells_at i (drop k columns)) in
    omega (arith, parts)

-- where one column more is too much at a place, all are
pub never_few : (rows k : ℕ) (columns : List BlockColumn) (view : Coded) (counts : List ℕ) → k < length columns → IsViewAt rows columns k view → length counts ≡ rows
    → ((i : ℕ) → i < rows → slice_index counts i ≡ length (cells_at i (take k columns))) → IsOver (λ i. is_some (cell_at view i)) counts
    → ((i : ℕ) → i < rows → length (cells_at i columns) ≤ 1024) → ⊥
never_few rows k columns view counts within is long counted over few =
    let i = over.place in
    let inside : i < rows = omega (arith, over.inside, long) in
    let there : from_bool (is_some (cell_at view i)) ≡ 1 = ap from_bool over.there in
    let full = over.full in
    let more : slice_index counts i + from_bool (is_some (cell_at view i)) ≡ length (cells_at i (take (k + 1) columns))
    = column_counted rows i k columns view (slice_index counts i) _ within is inside refl (counted i inside) in
    omega (arith, there, full, more, first_cells i (k + 1) columns, few i inside)
