-- What stands at a place of a block's columns.
use Rattle.std.proofs.Common.{◌≡◌, ℕ, zero, suc, ◌+◌, ◌<◌, ◌≤◌, Bool, true, false, List, [], ◌∷◌, ◌++◌, length, map, take, drop, slice_index_or, Option, Some, None, IfSome, is_some, Result, Ok, Err, IfOk, IsTrue, ◌↔◌, if◌then◌else◌, refl, sym, ap, subst, ◌∙◌, arith}
use Rattle.std.specs.Option.{option_and_then}
use Rattle.std.specs.Int.{from_bool}
use Rattle.std.specs.List.{AllByRecursion}
use Rattle.std.specs.List.Sorted.{IsStrictlySortedBy}
use Rattle.std.specs.Cmp.Lexicographic.{slice_cmp}
use Rattle.std.specs.Ordering.{nat_cmp, is_lt}
use Rattle.std.specs.declared.cmp.Ordering.{Ordering}
use Rattle.std.specs.declared.cmp.Ordering.TheVariants.{Less, Equal, Greater}
use Rattle.std.proofs.lemmas.Cmp.{nat_list_cmp_total}
use Rattle.std.proofs.lemmas.List.{append-nil, drop_all, drop_more, length-append, take_more}
use Rattle.std.proofs.lemmas.List.Concat.{flat_map-append}
use Rattle.std.proofs.lemmas.List.FromFn.{get_or-map-range_with_len}
use Rattle.row_model.specs.declared.rows.Value.{Value}
use Rattle.row_model.specs.declared.rows.Cell.{Cell}
use Rattle.row_model.specs.Values.{IsCell, IsValue}
use Rattle.row_model.specs.Texts.{text_cmp}
use Rattle.column_bytes.specs.Cells.{Coded, cell_at}
use Rattle.row_blocks.specs.declared.column.BlockColumn.{BlockColumn}
use Rattle.row_blocks.specs.Columns.{IsSeen}
use Rattle.row_blocks.specs.Blocks.{IsOther, cell_at_place, cells_at, value_in}
use Rattle.row_blocks.specs.Places.{AreSeen, FitARow, last_name, names_of, next_of, no_column}
use Rattle.row_blocks.proofs.Means.{one_count}
use Rattle.row_blocks.proofs.Taking.{all_push, all_weaker}

-- a cell of what was read is the column's
pub seen_at : (view : Coded) (bytes : List ℕ) → IsSeen view bytes → (i : ℕ) → i < length view.codes → cell_at view i ≡ value_in bytes i
seen_at view bytes seen i within =
    sym (get_or-map-range_with_len (cell_at view) 0 (length view.codes) i i None within (omega arith))
    ∙ ap (λ (l : List (Option Value)). slice_index_or l i None) seen.cells

-- a column that was read has a cell for each row
pub seen_count : (rows : ℕ) (view : Coded) (c : BlockColumn) → IsSeen view c.bytes → IsOther rows c → length view.codes ≡ rows
seen_count rows view c seen is = one_count c.bytes (length view.codes) rows seen.mean is.cells

-- ---- names ascend

less_is : (o : Ordering) → is_lt o ≡ true → o ≡ Less
less_is Less e = refl
less_is Equal e = absurd cc
less_is Greater e = absurd cc

ascend_with : (i : ℕ) (columns : List BlockColumn) (last name : List ℕ) (value : Option Value)
    → ((l : List ℕ) → is_some (last_name i columns l) ≡ true → IsStrictlySortedBy (slice_cmp nat_cmp) (l ∷ names_of (cells_at i columns)))
    → is_some (option_and_then (last_name i columns) (next_of last name (is_some value))) ≡ true
    → IsStrictlySortedBy (slice_cmp nat_cmp) (last ∷ names_of (cell_at_place name value ++ cells_at i columns))
unfolding IsStrictlySortedBy
ascend_with i columns last name None rest e = rest last e
ascend_with i columns last name (Some value) rest e = by (is_lt (text_cmp last name)) refl e
  where
    by : (b : Bool) → is_lt (text_cmp last name) ≡ b → is_some (option_and_then (last_name i columns) (if b then Some name else None)) ≡ true
        → IsStrictlySortedBy (slice_cmp nat_cmp) (last ∷ name ∷ names_of (cells_at i columns))
    by true lt f =
        let less = less_is (text_cmp last name) lt in let behind = rest name f in (
          (
            less,
            all_weaker (λ y. slice_cmp nat_cmp name y ≡ Less) (λ y. slice_cmp nat_cmp last y ≡ Less) (names_of (cells_at i columns))
                (λ y further. nat_list_cmp_total.trans last name y less further) behind.0,
          ),
          behind,
        )
    by false lt f = absurd cc

ascend_from : (i : ℕ) (columns : List BlockColumn) (last : List ℕ) → is_some (last_name i columns last) ≡ true
    → IsStrictlySortedBy (slice_cmp nat_cmp) (last ∷ names_of (cells_at i columns))
unfolding IsStrictlySortedBy
ascend_from i [] last e = (tt, tt)
ascend_from i (c ∷ columns) last e = ascend_with i columns last c.name (value_in c.bytes i) (ascend_from i columns) e

found_with : (i : ℕ) (columns : List BlockColumn) (last name : List ℕ) (value : Option Value)
    → ((l : List ℕ) → IsStrictlySortedBy (slice_cmp nat_cmp) (l ∷ names_of (cells_at i columns)) → is_some (last_name i columns l) ≡ true)
    → IsStrictlySortedBy (slice_cmp nat_cmp) (last ∷ names_of (cell_at_place name value ++ cells_at i columns))
    → is_some (option_and_then (last_name i columns) (next_of last name (is_some value))) ≡ true
unfolding IsStrictlySortedBy
found_with i columns last name None rest sorted = rest last sorted
found_with i columns last name (Some value) rest sorted =
    subst (λ (b : Bool). is_some (option_and_then (last_name i columns) (if b then Some name else None)) ≡ true) (sym (ap is_lt sorted.0.0)) (rest name sorted.1)

found_from : (i : ℕ) (columns : List BlockColumn) (last : List ℕ) → IsStrictlySortedBy (slice_cmp nat_cmp) (last ∷ names_of (cells_at i columns))
    → is_some (last_name i columns last) ≡ true
found_from i [] last sorted = refl
found_from i (c ∷ columns) last sorted = found_with i columns last c.name (value_in c.bytes i) (found_from i columns) sorted

-- no name is empty, so each comes behind nothing
behind_nothing : (name : List ℕ) → 0 < length name → slice_cmp nat_cmp [] name ≡ Less
behind_nothing [] some = absurd (omega arith)
behind_nothing (x ∷ name) some = refl

all_behind : (rows i : ℕ) (columns : List BlockColumn) → AllByRecursion (IsOther rows) columns → AllByRecursion (λ y. slice_cmp nat_cmp [] y ≡ Less) (names_of (cells_at i columns))
all_behind rows i [] are = tt
all_behind rows i (c ∷ columns) are = by (value_in c.bytes i) (all_behind rows i columns are.1)
  where
    by : (value : Option Value) → AllByRecursion (λ y. slice_cmp nat_cmp [] y ≡ Less) (names_of (cells_at i columns))
        → AllByRecursion (λ y. slice_cmp nat_cmp [] y ≡ Less) (names_of (cell_at_place c.name value ++ cells_at i columns))
    by None rest = rest
    by (Some value) rest = (behind_nothing c.name are.0.name.some, rest)

pub ascend_names : (rows i : ℕ) (columns : List BlockColumn) → is_some (last_name i columns []) ≡ true → IsStrictlySortedBy (slice_cmp nat_cmp) (names_of (cells_at i columns))
unfolding IsStrictlySortedBy
ascend_names rows i columns e = (ascend_from i columns [] e).1

pub names_ascend : (rows i : ℕ) (columns : List BlockColumn) → AllByRecursion (IsOther rows) columns → IsStrictlySortedBy (slice_cmp nat_cmp) (names_of (cells_at i columns))
    → is_some (last_name i columns []) ≡ true
unfolding IsStrictlySortedBy
names_ascend rows i columns are sorted = found_from i columns [] (all_behind rows i columns are, sorted)

-- ---- columns with names of their own

at_most_one : (name : List ℕ) (value : Option Value) → length (cell_at_place name value) ≤ 1
at_most_one name None = omega arith
at_most_one name (Some value) = omega arith

no_more_cells : (i : ℕ) (columns : List BlockColumn) → length (cells_at i columns) ≤ length columns
no_more_cells i [] = omega arith
no_more_cells i (c ∷ columns) =
    omega (arith, length-append (cell_at_place c.name (value_in c.bytes i)) (cells_at i columns), at_most_one c.name (value_in c.bytes i), no_more_cells i columns)

below_cells : (P : List ℕ → Type 0) (i : ℕ) (columns : List BlockColumn) → AllByRecursion P (map (λ (c : BlockColumn). c.name) columns) → AllByRecursion P (names_of (cells_at i columns))
below_cells P i [] all = tt
below_cells P i (c ∷ columns) all = by (value_in c.bytes i) (below_cells P i columns all.1)
  where
    by : (value : Option Value) → AllByRecursion P (names_of (cells_at i columns)) → AllByRecursion P (names_of (cell_at_place c.name value ++ cells_at i columns))
    by None rest = rest
    by (Some value) rest = (all.0, rest)

own_names : (i : ℕ) (columns : List BlockColumn) → IsStrictlySortedBy (slice_cmp nat_cmp) (map (λ (c : BlockColumn). c.name) columns) → IsStrictlySortedBy (slice_cmp nat_cmp) (names_of (cells_at i columns))
unfolding IsStrictlySortedBy
own_names i [] sorted = tt
own_names i (c ∷ columns) sorted = by (value_in c.bytes i) (own_names i columns sorted.1)
  where
    by : (value : Option Value) → IsStrictlySortedBy (slice_cmp nat_cmp) (names_of (cells_at i columns)) → IsStrictlySortedBy (slice_cmp nat_cmp) (names_of (cell_at_place c.name value ++ cells_at i columns))
    by None rest = rest
    by (Some value) rest = (below_cells (λ y. slice_cmp nat_cmp c.name y ≡ Less) i columns sorted.0, rest)

pub own_names_fit : (i : ℕ) (columns : List BlockColumn) → length columns ≤ 1024 → IsStrictlySortedBy (slice_cmp nat_cmp) (map (λ (c : BlockColumn). c.name) columns) → FitARow (cells_at i columns)
own_names_fit i columns few sorted = record { few = omega (arith, no_more_cells i columns, few); ascending = own_names i columns sorted }

-- so only their number counts
pub few_fit : (E : Type 0) (rows : ℕ) (columns : List BlockColumn) (found : Result Bool E) → IsStrictlySortedBy (slice_cmp nat_cmp) (map (λ (c : BlockColumn). c.name) columns)
    → IfOk found (λ few. IsTrue few ↔ ((i : ℕ) → i < rows → length (cells_at i columns) ≤ 1024)) → IfOk found (λ fit. IsTrue fit ↔ ((i : ℕ) → i < rows → FitARow (cells_at i columns)))
few_fit E rows columns (Ok b) sorted told =
    (λ few i within. record { few = told.0 few i within; ascending = own_names i columns sorted }, λ fit. told.1 (λ i within. (fit i within).few))
few_fit E rows columns (Err e) sorted told = tt

-- ---- the cells are cells

pub cells_are : (rows i : ℕ) (views : List Coded) (columns : List BlockColumn) → i < rows → AllByRecursion (IsOther rows) columns → AreSeen views columns → AllByRecursion IsCell (cells_at i columns)
cells_are rows i [] [] within are seen = tt
cells_are rows i [] (c ∷ columns) within are seen = absurd seen
cells_are rows i (v ∷ views) [] within are seen = absurd seen
cells_are rows i (v ∷ views) (c ∷ columns) within are seen =
    by (value_in c.bytes i) (seen.0.values i (omega (arith, seen_count rows v c seen.0 are.0, within))) (cells_are rows i views columns within are.1 seen.1)
  where
    by : (value : Option Value) → IfSome value IsValue → AllByRecursion IsCell (cells_at i columns) → AllByRecursion IsCell (cell_at_place c.name value ++ cells_at i columns)
    by None fits rest = rest
    by (Some value) fits rest = (record { name = are.0.name; value = fits }, rest)

-- ---- column by column

pub seen_length : (views : List Coded) (columns : List BlockColumn) → AreSeen views columns → length views ≡ length columns
seen_length [] [] seen = refl
seen_length [] (c ∷ columns) seen = absurd seen
seen_length (v ∷ views) [] seen = absurd seen
seen_length (v ∷ views) (c ∷ columns) seen = ap suc (seen_length views columns seen.1)

pub seen_pair : (views : List Coded) (columns : List BlockColumn) (k : ℕ) (v : Coded) (c : BlockColumn) → AreSeen views columns → k < length columns
    → IsSeen (slice_index_or views k v) (slice_index_or columns k c).bytes
seen_pair [] [] k v c seen within = absurd (omega arith)
seen_pair [] (d ∷ columns) k v c seen within = absurd seen
seen_pair (w ∷ views) [] k v c seen within = absurd seen
seen_pair (w ∷ views) (d ∷ columns) zero v c seen within = seen.0
seen_pair (w ∷ views) (d ∷ columns) (suc k) v c seen within = seen_pair views columns k v c seen.1 (omega arith)

pub seen_push : (views : List Coded) (columns : List BlockColumn) (v : Coded) (c : BlockColumn) → AreSeen views columns → IsSeen v c.bytes → AreSeen (views ++ v ∷ []) (columns ++ c ∷ [])
seen_push [] [] v c seen is = (is, tt)
seen_push [] (d ∷ columns) v c seen is = absurd seen
seen_push (w ∷ views) [] v c seen is = absurd seen
seen_push (w ∷ views) (d ∷ columns) v c seen is = (seen.0, seen_push views columns v c seen.1 is)

-- one column further: the name of the last cell so far
pub one_further : (i k : ℕ) (columns : List BlockColumn) (last : List ℕ) (c : BlockColumn) (there : Bool) (next whole : Option (List ℕ)) → k < length columns
    → c ≡ slice_index_or columns k no_column → there ≡ is_some (value_in (slice_index_or columns k no_column).bytes i) → next ≡ next_of last c.name there
    → last_name i (drop k columns) last ≡ whole → option_and_then (last_name i (drop (k + 1) columns)) next ≡ whole
one_further i k columns last c there next whole within same has is before =
    ap (option_and_then (last_name i (drop (k + 1) columns)))
    (is ∙ ap (λ (d : BlockColumn). next_of last d.name there) same ∙ ap (next_of last (slice_index_or columns k no_column).name) has)
    ∙ sym (ap (λ (l : List BlockColumn). last_name i l last) (drop_more columns k no_column within))
    ∙ before

pub no_further : (i k : ℕ) (columns : List BlockColumn) (last : List ℕ) (whole : Option (List ℕ)) → length columns ≤ k → last_name i (drop k columns) last ≡ whole → true ≡ is_some whole
no_further i k columns last whole past before =
    sym (ap (λ (l : List BlockColumn). is_some (last_name i l last)) (drop_all k columns past)) ∙ ap is_some before

length_of_cell : (name : List ℕ) (value : Option Value) → length (cell_at_place name value) ≡ from_bool (is_some value)
length_of_cell name None = refl
length_of_cell name (Some value) = refl

-- one column more: how many cells there are
pub one_more_cell : (i k : ℕ) (columns : List BlockColumn) → k < length columns
    → length (cells_at i (take k columns)) + from_bool (is_some (value_in (slice_index_or columns k no_column).bytes i)) ≡ length (cells_at i (take (k + 1) columns))
one_more_cell i k columns within =
    let c = slice_index_or columns k no_column in
    ap (λ (n : ℕ). length (cells_at i (take k columns)) + n) (sym (length_of_cell c.name (value_in c.bytes i)) ∙ ap (λ (l : List Cell). length l) (sym (append-nil (cell_at_place c.name (value_in c.bytes i)))))
    ∙ sym (length-append (cells_at i (take k columns)) (cells_at i (c ∷ [])))
    ∙ ap (λ (l : List Cell). length l) (sym (flat_map-append (λ (d : BlockColumn). cell_at_place d.name (value_in d.bytes i)) (take k columns) (c ∷ [])))
    ∙ ap (λ (l : List BlockColumn). length (cells_at i l)) (sym (take_more columns k no_column within))

pub one_at_most : (b : Bool) → from_bool b ≤ 1
one_at_most true = omega arith
one_at_most false = omega arith

-- the two tests of a place
pub fit_decided : (rows i : ℕ) (columns : List BlockColumn) (b : Bool) → AllByRecursion (IsOther rows) columns → b ≡ is_some (last_name i columns []) → length (cells_at i columns) ≤ 1024
    → (b ≡ true → FitARow (cells_at i columns)) × (FitARow (cells_at i columns) → b ≡ true)
fit_decided rows i columns b are e few =
    (λ yes. record { few = few; ascending = ascend_names rows i columns (sym e ∙ yes) }, λ fit. e ∙ names_ascend rows i columns are fit.ascending)

pub others_more : (rows : ℕ) (columns : List BlockColumn) (views : List Coded) (k : ℕ) (c : BlockColumn) (v : Coded) → k < length columns → c ≡ slice_index_or columns k c
    → AllByRecursion (IsOther rows) (take k columns) → AreSeen views (take k columns) → IsOther rows c → IsSeen v c.bytes
    → AllByRecursion (IsOther rows) (take (k + 1) columns) × AreSeen (views ++ v ∷ []) (take (k + 1) columns)
others_more rows columns views k c v within at are seen is sees =
    let more : take (k + 1) columns ≡ take k columns ++ c ∷ [] = take_more columns k c within ∙ ap (λ (d : BlockColumn). take k columns ++ d ∷ []) (sym at) in (
      subst (AllByRecursion (IsOther rows)) (sym more) (all_push (IsOther rows) (take k columns) c are is),
      subst (AreSeen (views ++ v ∷ [])) (sym more) (seen_push views (take k columns) v c seen sees),
    )
