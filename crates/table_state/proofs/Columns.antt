-- Blocks have a column of times, and one for each heading of the cells of their rows.
use Rattle.std.proofs.Common.{◌≡◌, ℕ, suc, ◌+◌, ◌≤◌, Bool, true, false, ltb, List, [], ◌∷◌, ◌++◌, length, map, drop, slice_index, slice_index_or, Option, Some, None, IfSome, if◌then◌else◌, refl, sym, ap, subst, arith}
use Rattle.std.specs.Prelude.{ℤ, int_le}
use Rattle.std.specs.Cmp.{IsEquivalence}
use Rattle.std.specs.List.{All, AllByRecursion, flat_map, range_with_len}
use Rattle.std.specs.Ordering.{eq_by_cmp}
use Rattle.std.specs.Set.{distinct_count, is_member}
use Rattle.std.proofs.lemmas.Bool.{ltb-true, ltb-false}
use Rattle.std.proofs.lemmas.Cmp.{eq_by_cmp_equiv}
use Rattle.std.proofs.lemmas.List.{get_or_past, length-append, length-map}
use Rattle.std.proofs.lemmas.List.Elements.{All-append, All-drop, All-filter, All-from_recursion, All-head, All-map, All-nil, All-tail, recursion_from_All}
use Rattle.std.proofs.lemmas.List.FromFn.{get_or-map-range_with_len, length-map-range_with_len}
use Rattle.std.proofs.lemmas.Map.Made.{All-is_member}
use Rattle.row_model.specs.declared.rows.Value.{Value}
use Rattle.row_model.specs.declared.rows.Cell.{Cell}
use Rattle.row_model.specs.declared.rows.Row.{Row}
use Rattle.column_bytes.specs.declared.kind.Kind.{Kind}
use Rattle.column_bytes.specs.Cells.{Base, Anchors, Coded, Codebook, Entries, Sets, cell_at, value_at}
use Rattle.column_bytes.specs.Cells as coded
use Rattle.column_bytes.specs.Column.{coded_in, count_in, extra_part, kind_in}
use Rattle.column_bytes.proofs.Named.{kind_named}
use Rattle.row_blocks.specs.declared.column.BlockColumn.{BlockColumn}
use Rattle.row_blocks.specs.Columns.{MeanCells}
use Rattle.row_blocks.specs.Headings.{Heading, heading, heading_cmp, heading_of, kind_of}
use Rattle.row_blocks.specs.Blocks.{Block, IsBlock, IsOther, cell_at_place, cells_at, row_at, rows_in, value_in}
use Rattle.row_blocks.specs.Held.{IsSkip, block_rows, rows_held}
use Rattle.row_blocks.proofs.Order.{heading_total}
use Rattle.table_state.specs.Tables.{headings_in, least_columns}
use Rattle.table_state.proofs.Distinct.{few_distinct}

-- ---- what stands in a column is of its kind

book_kind : (book : Codebook) (codes : List ℕ) (i : ℕ) → kind_of (value_at book codes i) ≡ coded.kind_of_book book
book_kind (Base base) codes i = refl
book_kind (Anchors anchors) codes i = refl
book_kind (Entries texts) codes i = refl
book_kind (Sets sets) codes i = refl

cell_kind : (view : Coded) (i : ℕ) → IfSome (cell_at view i) (λ v. kind_of v ≡ coded.kind_of_book view.book)
cell_kind view i = by (slice_index_or view.present i false)
  where
    by : (b : Bool) → IfSome (if b then Some (value_at view.book view.codes i) else None) (λ v. kind_of v ≡ coded.kind_of_book view.book)
    by true = book_kind view.book view.codes i
    by false = tt

listed_kind : (view : Coded) (i : ℕ) → IfSome (slice_index_or (coded.cells_of view) i None) (λ v. kind_of v ≡ coded.kind_of_book view.book)
listed_kind view i = by (ltb i (length view.codes)) refl
  where
    by : (b : Bool) → ltb i (length view.codes) ≡ b → IfSome (slice_index_or (coded.cells_of view) i None) (λ v. kind_of v ≡ coded.kind_of_book view.book)
    by true e = subst (λ (o : Option Value). IfSome o (λ v. kind_of v ≡ coded.kind_of_book view.book))
        (sym (get_or-map-range_with_len (cell_at view) 0 (length view.codes) i i None (ltb-true i (length view.codes) e) (omega arith))) (cell_kind view i)
    by false e = subst (λ (o : Option Value). IfSome o (λ v. kind_of v ≡ coded.kind_of_book view.book))
        (sym (get_or_past (coded.cells_of view) i None (omega (arith, ltb-false i (length view.codes) e, length-map-range_with_len (cell_at view) 0 (length view.codes))))) tt

of_kind : (bytes : List ℕ) (n i : ℕ) → MeanCells bytes n → IfSome (value_in bytes i) (λ v. kind_of v ≡ kind_in bytes)
unfolding MeanCells
of_kind bytes n i mean =
    let view : Coded = coded_in mean.form bytes in
    let kind : coded.kind_of_book view.book ≡ kind_in bytes = kind_named (slice_index bytes 0) (slice_index bytes 1) mean.form (count_in bytes) (extra_part bytes) mean.is.header.form_is in
    subst (λ (cells : List (Option Value)). IfSome (slice_index_or cells i None) (λ v. kind_of v ≡ kind_in bytes)) (sym mean.cells_are)
    (subst (λ (k : Kind). IfSome (slice_index_or (coded.cells_of view) i None) (λ v. kind_of v ≡ k)) kind (listed_kind view i))

-- ---- what holds of the headings of columns holds of those of their rows' cells

-- the headings of the columns behind that of the times
abbrev other_headings : List BlockColumn → List Heading
other_headings columns = map heading (drop 1 columns)

abbrev blocks_headings : List Block → List Heading
blocks_headings blocks = flat_map (λ (b : Block). other_headings b.columns) blocks

module _ (P : Heading → Type 0) where
  abbrev FitCells : Row → Type 0
  FitCells row = All P (map heading_of row.cells)

  one_cell : (name : List ℕ) (kind : Kind) (value : Option Value) (cells : List Cell) → IfSome value (λ v. kind_of v ≡ kind) → P (record { name = name; kind = kind })
      → AllByRecursion P (map heading_of cells) → AllByRecursion P (map heading_of (cell_at_place name value ++ cells))
  one_cell name kind None cells same is all = all
  one_cell name kind (Some v) cells same is all = (subst (λ (k : Kind). P (record { name = name; kind = k })) (sym same) is, all)

  at_place : (rows i : ℕ) (columns : List BlockColumn) → AllByRecursion (IsOther rows) columns → AllByRecursion P (map heading columns)
      → AllByRecursion P (map heading_of (cells_at i columns))
  at_place rows i [] are all = tt
  at_place rows i (c ∷ columns) are all =
      one_cell c.name (kind_in c.bytes) (value_in c.bytes i) (cells_at i columns) (of_kind c.bytes rows i are.0.cells) all.0 (at_place rows i columns are.1 all.1)

  in_row : (b : Block) (i : ℕ) → IsBlock b → All P (other_headings b.columns) → FitCells (row_at b.columns i)
  in_row b i is all =
      let others : All P (map heading is.others) = subst (λ (cs : List BlockColumn). All P (other_headings cs)) is.columns_are all in
      subst (λ (cs : List BlockColumn). FitCells (row_at cs i)) (sym is.columns_are)
      (All-from_recursion P (map heading_of (cells_at i is.others)) (at_place b.rows i is.others is.each (recursion_from_All P (map heading is.others) others)))

  in_block : (b : Block) → IsBlock b → All P (other_headings b.columns) → All FitCells (rows_in b)
  in_block b is all = All-map FitCells (row_at b.columns) (range_with_len 0 b.rows) (λ k d within. in_row b (slice_index_or (range_with_len 0 b.rows) k d) is all)

  both : (xs ys : List Heading) → AllByRecursion P (xs ++ ys) → AllByRecursion P xs × AllByRecursion P ys
  both [] ys all = (tt, all)
  both (x ∷ xs) ys all = let rest = both xs ys all.1 in ((all.0, rest.0), rest.1)

  in_blocks : (blocks : List Block) → AllByRecursion IsBlock blocks → AllByRecursion P (blocks_headings blocks) → All FitCells (block_rows blocks)
  in_blocks [] are all = All-nil FitCells
  in_blocks (b ∷ blocks) are all =
      let parts = both (other_headings b.columns) (blocks_headings blocks) all in
      All-append FitCells (rows_in b) (block_rows blocks) (in_block b are.0 (All-from_recursion P (other_headings b.columns) parts.0)) (in_blocks blocks are.1 parts.1)

  of_rows : (rows : List Row) → All FitCells rows → All P (headings_in rows)
  of_rows [] all = All-nil P
  of_rows (row ∷ rows) all = All-append P (map heading_of row.cells) (headings_in rows) (All-head FitCells row rows all) (of_rows rows (All-tail FitCells row rows all))

  in_held : (blocks : List Block) (skip : ℕ) (horizon : ℤ) → AllByRecursion IsBlock blocks → AllByRecursion P (blocks_headings blocks) → All P (headings_in (rows_held blocks [] skip horizon))
  in_held blocks skip horizon are all =
      of_rows (rows_held blocks [] skip horizon) (All-filter (λ (row : Row). int_le horizon row.time) FitCells (drop skip (block_rows blocks) ++ [])
      (All-append FitCells (drop skip (block_rows blocks)) [] (All-drop FitCells skip (block_rows blocks) (in_blocks blocks are all)) (All-nil FitCells)))

-- ---- so many columns

same_heading : IsEquivalence (eq_by_cmp heading_cmp)
same_heading = eq_by_cmp_equiv heading_total

few_headings : (blocks : List Block) (skip : ℕ) (horizon : ℤ) → AllByRecursion IsBlock blocks
    → distinct_count (eq_by_cmp heading_cmp) (headings_in (rows_held blocks [] skip horizon)) ≤ length (blocks_headings blocks)
few_headings blocks skip horizon are =
    let P : Heading → Type 0 = λ h. is_member (eq_by_cmp heading_cmp) (blocks_headings blocks) h ≡ true in
    few_distinct same_heading (headings_in (rows_held blocks [] skip horizon)) (blocks_headings blocks)
    (recursion_from_All P (headings_in (rows_held blocks [] skip horizon))
    (in_held P blocks skip horizon are (recursion_from_All P (blocks_headings blocks) (All-is_member same_heading (blocks_headings blocks)))))

-- the columns of blocks, one after another
abbrev pub columns_of : List Block → List (List ℕ)
columns_of blocks = flat_map (λ (b : Block). map (λ (c : BlockColumn). c.bytes) b.columns) blocks

with_times : (b : Block) → IsBlock b → length (map (λ (c : BlockColumn). c.bytes) b.columns) ≡ suc (length (other_headings b.columns))
with_times b is =
    let columns = length-map b.columns (λ (c : BlockColumn). c.bytes) in
    let others = length-map is.others heading in
    let whole : length b.columns ≡ suc (length is.others) = ap (λ (cs : List BlockColumn). length cs) is.columns_are in
    let rest : length (other_headings b.columns) ≡ length (map heading is.others) = ap (λ (cs : List BlockColumn). length (other_headings cs)) is.columns_are in
    omega (arith, columns, others, whole, rest)

others_fit : (blocks : List Block) → AllByRecursion IsBlock blocks → length (blocks_headings blocks) + length blocks ≤ length (columns_of blocks)
others_fit [] are = omega arith
others_fit (b ∷ blocks) are =
    omega (
      arith,
      with_times b are.0,
      length-append (map (λ (c : BlockColumn). c.bytes) b.columns) (columns_of blocks),
      length-append (other_headings b.columns) (blocks_headings blocks),
      others_fit blocks are.1,
    )

at_most : (rows : List Row) → least_columns rows ≤ 1 + distinct_count (eq_by_cmp heading_cmp) (headings_in rows)
at_most [] = omega arith
at_most (row ∷ rows) = omega arith

-- the blocks of a table have the columns that its rows ask for
pub blocks_long : (blocks : List Block) (skip : ℕ) (horizon : ℤ) → IsSkip skip blocks → AllByRecursion IsBlock blocks
    → least_columns (rows_held blocks [] skip horizon) ≤ length (columns_of blocks)
blocks_long [] skip horizon none are = subst (λ (n : ℕ). least_columns (rows_held [] [] n horizon) ≤ 0) (sym none) (omega arith)
blocks_long (b ∷ blocks) skip horizon skips are =
    omega (arith, at_most (rows_held (b ∷ blocks) [] skip horizon), few_headings (b ∷ blocks) skip horizon are, others_fit (b ∷ blocks) are)
