-- What is decoded of columns, and which places are left.
use Rattle.std.proofs.Common.{◌≡◌, ℕ, ◌+◌, ◌<◌, Bool, true, false, ◌&&◌, cond, List, [], ◌∷◌, ◌++◌, length, map, take, filter, get_or, slice_index, slice_index_or, ℤ, pos, int_le, Option, Some, None, refl, sym, ap, ◌∙◌, arith}
use Rattle.std.specs.Prelude.{bytes_eq, option_and_then}
use Rattle.std.specs.List.{AllByRecursion, range_with_len}
use Rattle.std.proofs.lemmas.List.{get_or-map, length-map}
use Rattle.std.proofs.lemmas.List.Elements.{filter_agree}
use Rattle.std.proofs.lemmas.List.Folds.{list_all_more}
use Rattle.std.proofs.lemmas.List.FromFn.{get_or-map-range_with_len, length-map-range_with_len, map-range_with_len_more}
use Rattle.row_model.specs.declared.rows.Value.{Value}
use Rattle.row_model.specs.declared.rows.Value.TheVariants as values
use Rattle.row_model.specs.declared.rows.Cell.{Cell}
use Rattle.row_model.specs.declared.rows.Row.{Row}
use Rattle.leaf_model.specs.declared.queries.Cond.{Cond}
use Rattle.leaf_model.specs.declared.queries.Query.{Query}
use Rattle.leaf_model.specs.Groups.{as_int, cell_value, cond_accepts, groups, passes, value_of}
use Rattle.column_bytes.specs.Cells.{Codebook, Base, Anchors, Entries, Sets, entries, entry_cells, integer_cells, no_value}
use Rattle.row_blocks.specs.Columns.{cells_in}
use Rattle.row_blocks.specs.Blocks.{cell_at_place, value_in}
use Rattle.block_scan.specs.declared.decoded.EntryCodes.{EntryCodes}
use Rattle.block_scan.specs.declared.decoded.Decoded.TheVariants.{Codes}
use Rattle.block_scan.specs.Decoded.{IsSized, accepted_codes, conds_hold}
use Rattle.block_scan.specs.Slots.{integer_of}
use Rattle.block_scan.proofs.Lists.{both_tests, filter_alike, filter_mapped, weaker_test}
use Rattle.block_scan.proofs.Narrowed.{groups_of}

pub integer_at : (bytes : List ℕ) (present : List Bool) (integers : List ℤ) (i : ℕ) → i < length present → cells_in bytes ≡ integer_cells present integers
    → value_in bytes i ≡ cond (slice_index_or present i false) (Some (values.Int (slice_index_or integers i (pos 0)))) None
integer_at bytes present integers i within cells =
    ap (λ (l : List (Option Value)). slice_index_or l i None) cells
    ∙ get_or-map-range_with_len (λ k. cond (slice_index_or present k false) (Some (values.Int (slice_index_or integers k (pos 0)))) None) 0 (length present) i i None within (omega arith)

pub entry_at : (bytes : List ℕ) (entries : List Value) (present : List Bool) (codes : List ℕ) (i : ℕ) → i < length codes → cells_in bytes ≡ entry_cells entries present codes
    → value_in bytes i ≡ cond (slice_index_or present i false) (Some (slice_index_or entries (slice_index codes i) no_value)) None
entry_at bytes entries present codes i within cells =
    ap (λ (l : List (Option Value)). slice_index_or l i None) cells
    ∙ get_or-map-range_with_len (λ k. cond (slice_index_or present k false) (Some (slice_index_or entries (slice_index codes k) no_value)) None) 0 (length codes) i i None within (omega arith)

-- no text and no set is an integer
no_integer : (book : Codebook) (code : ℕ) → code < length (entries book) → as_int (slice_index_or (entries book) code no_value) ≡ None
no_integer (Base base) code within = absurd (omega (arith, within))
no_integer (Anchors anchors) code within = absurd (omega (arith, within))
no_integer (Entries texts) code within = ap as_int (get_or-map values.Text texts code [] no_value (omega (arith, within, length-map texts values.Text)))
no_integer (Sets sets) code within = ap as_int (get_or-map values.Set sets code [] no_value (omega (arith, within, length-map sets values.Set)))

pub no_integers : (rows : ℕ) (d : EntryCodes) (place : ℕ) → IsSized rows (Codes d) → place < rows → integer_of (Codes d) place ≡ None
no_integers rows d place sized within = by (slice_index_or d.present.items place false) refl
  where
    by : (b : Bool) → slice_index_or d.present.items place false ≡ b
        → option_and_then as_int (cond b (Some (slice_index_or (entries d.view.now.book) (slice_index d.codes.items place) no_value)) None) ≡ None
    by true e = no_integer d.view.now.book (slice_index d.codes.items place) (sized.2 place within e)
    by false e = refl

-- ---- the column of a name

pub cell_same : (name other : List ℕ) (v : Option Value) (cells : List Cell) → bytes_eq name other ≡ true → cell_value name cells ≡ None → cell_value name (cell_at_place other v ++ cells) ≡ v
cell_same name other None cells e none = none
cell_same name other (Some v) cells e none = ap (λ (b : Bool). cond b (Some v) (cell_value name cells)) e

-- ---- places that meet conditions

-- one condition more
pub conds_more : (conds : List Cond) (k : ℕ) (c : Cond) (row : ℕ → Row) (there : ℕ → Option Value) (n : ℕ) (places left now : List ℕ) → k < length conds → c ≡ get_or conds k c
    → AllByRecursion (λ place. place < n) left → left ≡ filter (λ i. conds_hold (take k conds) (row i)) places → ((i : ℕ) → i < n → value_of c.name (row i) ≡ there i)
    → now ≡ filter (λ i. cond_accepts c (there i)) left → now ≡ filter (λ i. conds_hold (take (k + 1) conds) (row i)) places
conds_more conds k c row there n places left now within at inside so_far same narrowed =
    let holds = λ (r : Row) (d : Cond). cond_accepts d (value_of d.name r) in
    narrowed ∙ filter_alike (λ i. i < n) (λ i. cond_accepts c (there i)) (λ i. holds (row i) c) (λ i h. ap (cond_accepts c) (sym (same i h))) left inside
    ∙ ap (filter (λ i. holds (row i) c)) so_far
    ∙ both_tests (λ i. conds_hold (take k conds) (row i)) (λ i. holds (row i) c) places
    ∙ filter_agree _ (λ i. conds_hold (take (k + 1) conds) (row i))
    (λ i. ap (λ (d : Cond). conds_hold (take k conds) (row i) && holds (row i) d) at ∙ sym (list_all_more (holds (row i)) conds k c within)) places

conds_of : (a b c : Bool) → (a && (b && c)) ≡ true → c ≡ true
conds_of true true c e = e
conds_of true false c e = absurd cc
conds_of false b c e = absurd cc

-- rows that meet the conditions give all groups
pub groups_narrow : (q : Query) (row : ℕ → Row) (places left : List ℕ) → left ≡ filter (λ i. conds_hold q.conds (row i)) places → groups q (map row left) ≡ groups q (map row places)
groups_narrow q row places left narrowed =
    ap (λ (l : List ℕ). groups q (map row l)) narrowed ∙ ap (groups q) (sym (filter_mapped (conds_hold q.conds) row places))
    ∙ ap (groups_of q) (weaker_test (conds_hold q.conds) (passes q) (λ r e. conds_of (int_le q.from r.time) (int_le r.time q.to) (conds_hold q.conds r) e) (map row places))

-- ---- values that meet a condition

pub accepted_more : (c : Cond) (entries : List Value) (k : ℕ) (all now : List Bool) (b : Bool) (value : Value)
    → all ≡ map (λ code. cond_accepts c (Some (slice_index_or entries code no_value))) (range_with_len 0 k) → value ≡ slice_index_or entries k no_value → b ≡ cond_accepts c (Some value) → now ≡ all ++ b ∷ []
    → now ≡ map (λ code. cond_accepts c (Some (slice_index_or entries code no_value))) (range_with_len 0 (k + 1))
accepted_more c entries k all now b value so_far at is pushed =
    let f = λ (code : ℕ). cond_accepts c (Some (slice_index_or entries code no_value)) in
    let zero_add : 0 + k ≡ k = omega arith in
    pushed ∙ ap (λ (l : List Bool). l ++ b ∷ []) so_far ∙ ap (λ (d : Bool). map f (range_with_len 0 k) ++ d ∷ []) (is ∙ ap (λ (v : Value). cond_accepts c (Some v)) at)
    ∙ sym (map-range_with_len_more f 0 k k zero_add)

pub accepted_at : (c : Cond) (entries : List Value) (accepted : List Bool) (code : ℕ) → accepted ≡ accepted_codes c entries → code < length entries
    → slice_index_or accepted code false ≡ cond_accepts c (Some (slice_index_or entries code no_value))
accepted_at c entries accepted code is within =
    let f = λ (k : ℕ). cond_accepts c (Some (slice_index_or entries k no_value)) in
    ap (λ (l : List Bool). slice_index_or l code false) is ∙ get_or-map-range_with_len f 0 (length entries) code code false within (omega arith)

pub accepted_count : (c : Cond) (entries : List Value) (accepted : List Bool) → accepted ≡ accepted_codes c entries → length accepted ≡ length entries
accepted_count c entries accepted is = ap (λ (l : List Bool). length l) is ∙ length-map-range_with_len (λ (k : ℕ). cond_accepts c (Some (slice_index_or entries k no_value))) 0 (length entries)
