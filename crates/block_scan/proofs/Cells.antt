-- What was read of columns stands for their cells.
use Rattle.std.proofs.Common.{◌≡◌, ℕ, suc, ◌+◌, ◌-◌, ◌<◌, ◌≤◌, Bool, true, false, cond, List, [], ◌∷◌, ◌++◌, length, take, drop, get_or, filter, slice_index_or, ℤ, pos, Option, Some, None, sym, ap, subst, ◌∙◌, arith}
use Rattle.std.specs.List.{flat_map, range_with_len}
use Rattle.std.proofs.lemmas.List.{append-nil, drop_more, map_more, map_push}
use Rattle.std.proofs.lemmas.List.Concat.{flat_map-append}
use Rattle.std.proofs.lemmas.List.Elements.{filter_more}
use Rattle.std.proofs.lemmas.List.FromFn.{get_or-map-range_with_len}
use Rattle.row_model.specs.declared.rows.Value.{Value}
use Rattle.row_model.specs.declared.rows.Value.TheVariants as values
use Rattle.row_model.specs.declared.rows.Cell.{Cell}
use Rattle.leaf_model.specs.declared.queries.Query.{Query}
use Rattle.column_bytes.specs.Cells.{cell_at, integer_cells}
use Rattle.row_blocks.specs.declared.column.BlockColumn.{BlockColumn}
use Rattle.row_blocks.specs.Columns.{cells_in}
use Rattle.row_blocks.specs.Blocks.{IsTimeCell, cell_at_place, cells_at, time_in_cell, value_in}
use Rattle.block_scan.specs.declared.reading.ReadColumn.{ReadColumn}
use Rattle.block_scan.specs.Reads.{IsRead, columns_of}
use Rattle.block_scan.specs.Scanning.{is_named, named_columns}
use Rattle.block_scan.proofs.Lists.{filter_range_more}

pub cell_read : (rows : ℕ) (c : ReadColumn) → IsRead rows c → (i : ℕ) → i < length c.view.codes → value_in c.column.now.bytes i ≡ cell_at c.view i
cell_read rows c read i within =
    ap (λ (l : List (Option Value)). slice_index_or l i None) (sym read.cells)
    ∙ get_or-map-range_with_len (cell_at c.view) 0 (length c.view.codes) i i None within (omega arith)

pub cells_more : (place i : ℕ) (read : List ReadColumn) (c : ReadColumn) (cells now : List Cell) → i < length read → c ≡ get_or read i c
    → cells ≡ cells_at place (columns_of (take i read)) → now ≡ cells ++ cell_at_place c.column.now.name (value_in c.column.now.bytes place)
    → now ≡ cells_at place (columns_of (take (i + 1) read))
cells_more place i read c cells now within at so_far pushed =
    let f = λ (r : ReadColumn). r.column.now in
    let g = λ (b : BlockColumn). cell_at_place b.name (value_in b.bytes place) in
    pushed ∙ ap (λ (l : List Cell). l ++ g (f c)) so_far
    ∙ ap (λ (l : List Cell). flat_map g (columns_of (take i read)) ++ l) (sym (append-nil (g (f c))))
    ∙ sym (flat_map-append g (columns_of (take i read)) (f c ∷ []))
    ∙ ap (λ (r : ReadColumn). flat_map g (columns_of (take i read) ++ f r ∷ [])) at
    ∙ ap (flat_map g) (sym (map_more f read i c within))

-- ---- times

pub time_at : (bytes : List ℕ) (present : List Bool) (times : List ℤ) (i : ℕ) → i < length present → cells_in bytes ≡ integer_cells present times → IsTimeCell (value_in bytes i)
    → slice_index_or times i (pos 0) ≡ time_in_cell (value_in bytes i)
time_at bytes present times i within cells timed = by (slice_index_or present i false) (value_in bytes i) at timed
  where
    at : value_in bytes i ≡ cond (slice_index_or present i false) (Some (values.Int (slice_index_or times i (pos 0)))) None
    at = ap (λ (l : List (Option Value)). slice_index_or l i None) cells
        ∙ get_or-map-range_with_len (λ k. cond (slice_index_or present k false) (Some (values.Int (slice_index_or times k (pos 0)))) None) 0 (length present) i i None within (omega arith)

    by : (b : Bool) (v : Option Value) → v ≡ cond b (Some (values.Int (slice_index_or times i (pos 0)))) None → IsTimeCell v → slice_index_or times i (pos 0) ≡ time_in_cell v
    by true v e t = ap time_in_cell (sym e)
    by false v e t = absurd (subst IsTimeCell e t)

pub places_more : (p : ℕ → Bool) (skip place : ℕ) (places now : List ℕ) → skip ≤ place → places ≡ filter p (range_with_len skip (place - skip)) → now ≡ places ++ cond (p place) (place ∷ []) []
    → now ≡ filter p (range_with_len skip (place + 1 - skip))
places_more p skip place places now h so_far pushed =
    let n = place - skip in
    let end : skip + n ≡ place = omega (arith, h) in
    let more : suc n ≡ place + 1 - skip = omega (arith, h) in
    pushed ∙ ap (λ (l : List ℕ). l ++ cond (p place) (place ∷ []) []) so_far ∙ sym (filter_range_more p skip n place end) ∙ ap (λ (m : ℕ). filter p (range_with_len skip m)) more

-- ---- named columns, one after another

next_column : (columns : List BlockColumn) (i : ℕ) (c : BlockColumn) → i < length columns → c ≡ get_or columns i c → drop i columns ≡ c ∷ drop (i + 1) columns
next_column columns i c within at = drop_more columns i c within ∙ ap (λ (d : BlockColumn). d ∷ drop (i + 1) columns) (sym at)

pub steps_named : (q : Query) (columns : List BlockColumn) (i : ℕ) (c : BlockColumn) → i < length columns → c ≡ get_or columns i c → is_named q c.name ≡ true
    → length (named_columns q (drop i columns)) ≡ suc (length (named_columns q (drop (i + 1) columns)))
steps_named q columns i c within at e =
    ap (λ (l : List BlockColumn). length (named_columns q l)) (next_column columns i c within at)
    ∙ ap (λ (b : Bool). length (cond b (c ∷ named_columns q (drop (i + 1) columns)) (named_columns q (drop (i + 1) columns)))) e

pub steps_other : (q : Query) (columns : List BlockColumn) (i : ℕ) (c : BlockColumn) → i < length columns → c ≡ get_or columns i c → is_named q c.name ≡ false
    → length (named_columns q (drop i columns)) ≡ length (named_columns q (drop (i + 1) columns))
steps_other q columns i c within at e =
    ap (λ (l : List BlockColumn). length (named_columns q l)) (next_column columns i c within at)
    ∙ ap (λ (b : Bool). length (cond b (c ∷ named_columns q (drop (i + 1) columns)) (named_columns q (drop (i + 1) columns)))) e

named_more : (q : Query) (columns : List BlockColumn) (i : ℕ) (c : BlockColumn) → i < length columns → c ≡ get_or columns i c
    → named_columns q (take (i + 1) columns) ≡ named_columns q (take i columns) ++ cond (is_named q c.name) (c ∷ []) []
named_more q columns i c within at =
    filter_more (λ (d : BlockColumn). is_named q d.name) columns i c within
    ∙ ap (λ (d : BlockColumn). named_columns q (take i columns) ++ cond (is_named q d.name) (d ∷ []) []) (sym at)

pub columns_other : (q : Query) (columns : List BlockColumn) (i : ℕ) (c : BlockColumn) (read : List ReadColumn) → i < length columns → c ≡ get_or columns i c → is_named q c.name ≡ false
    → columns_of read ≡ named_columns q (take i columns) → columns_of read ≡ named_columns q (take (i + 1) columns)
columns_other q columns i c read within at e so_far =
    so_far ∙ sym (append-nil (named_columns q (take i columns)))
    ∙ ap (λ (b : Bool). named_columns q (take i columns) ++ cond b (c ∷ []) []) (sym e) ∙ sym (named_more q columns i c within at)

pub columns_named : (q : Query) (columns : List BlockColumn) (i : ℕ) (c : BlockColumn) (read now : List ReadColumn) (one : ReadColumn) → i < length columns → c ≡ get_or columns i c
    → is_named q c.name ≡ true → columns_of read ≡ named_columns q (take i columns) → one.column.now ≡ c → now ≡ read ++ one ∷ [] → columns_of now ≡ named_columns q (take (i + 1) columns)
columns_named q columns i c read now one within at e so_far same pushed =
    ap columns_of pushed ∙ map_push (λ (r : ReadColumn). r.column.now) read one
    ∙ ap (λ (l : List BlockColumn). l ++ one.column.now ∷ []) so_far
    ∙ ap (λ (d : BlockColumn). named_columns q (take i columns) ++ d ∷ []) same
    ∙ ap (λ (b : Bool). named_columns q (take i columns) ++ cond b (c ∷ []) []) (sym e) ∙ sym (named_more q columns i c within at)
