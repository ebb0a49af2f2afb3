-- A column that is taken off the rows takes a cell at least, so there are no more columns than rows and cells.
use Rattle.std.proofs.Common.{◌≡◌, ℕ, zero, suc, ◌+◌, ◌<◌, ◌≤◌, Bool, true, false, List, [], ◌∷◌, length, map, slice_index_or, if◌then◌else◌, sym, ap, subst, ◌∙◌, arith}
use Rattle.std.specs.Ordering.{is_eq}
use Rattle.std.specs.declared.cmp.Ordering.{Ordering}
use Rattle.std.specs.declared.cmp.Ordering.TheVariants.{Equal}
use Rattle.std.proofs.lemmas.Cmp.{tied_itself}
use Rattle.row_model.specs.declared.rows.Cell.{Cell}
use Rattle.row_model.specs.declared.rows.Row.{Row}
use Rattle.row_blocks.specs.declared.column.BlockColumn.{BlockColumn}
use Rattle.row_blocks.specs.Headings.{Heading, heading_cmp, heading_of}
use Rattle.row_blocks.specs.Held.{rows_and_cells}
use Rattle.row_blocks.specs.Merging.{BeginsWith, HoldCells, cells_count, cells_of_rows, rest_after}
use Rattle.row_blocks.proofs.Order.{heading_total}

rest_no_longer : (h : Heading) (cells : List Cell) → length (rest_after h cells) ≤ length cells
rest_no_longer h [] = omega arith
rest_no_longer h (c ∷ cells) = by (is_eq (heading_cmp h (heading_of c)))
  where
    by : (b : Bool) → length (if b then cells else c ∷ cells) ≤ suc (length cells)
    by true = omega arith
    by false = omega arith

none_more : (h : Heading) (rests : List (List Cell)) → cells_count (map (rest_after h) rests) ≤ cells_count rests
none_more h [] = omega arith
none_more h (cells ∷ rests) = let first = rest_no_longer h cells in let more = none_more h rests in omega (arith, first, more)

rest_shorter : (c : Cell) (cells : List Cell) → BeginsWith c cells → length (rest_after (heading_of c) cells) < length cells
rest_shorter c [] begins = absurd begins
rest_shorter c (d ∷ cells) begins =
    let alike : heading_cmp (heading_of c) (heading_of d) ≡ Equal = ap (λ (e : Cell). heading_cmp (heading_of c) (heading_of e)) begins ∙ tied_itself heading_total (heading_of c) in
    subst (λ (o : Ordering). length (if is_eq o then cells else d ∷ cells) < suc (length cells)) (sym alike) (omega arith)

-- where the heading is that of a first cell
pub one_fewer : (c : Cell) (rests : List (List Cell)) (i : ℕ) → BeginsWith c (slice_index_or rests i []) → cells_count (map (rest_after (heading_of c)) rests) < cells_count rests
one_fewer c [] i begins = absurd begins
one_fewer c (cells ∷ rests) zero begins = let first = rest_shorter c cells begins in let more = none_more (heading_of c) rests in omega (arith, first, more)
one_fewer c (cells ∷ rests) (suc i) begins = let first = rest_no_longer (heading_of c) cells in let more = one_fewer c rests i begins in omega (arith, first, more)

rows_cells : (rows : List Row) → length rows + cells_count (cells_of_rows rows) ≡ rows_and_cells rows
rows_cells [] = omega arith
rows_cells (row ∷ rows) = let more = rows_cells rows in omega (arith, more)

pub few_columns : (rows : List Row) (times : BlockColumn) (others : List BlockColumn) → 0 < length rows → HoldCells rows others → length (times ∷ others) ≤ rows_and_cells rows
few_columns rows times others some hold = let few = hold.few in let all = rows_cells rows in omega (arith, some, few, all)
