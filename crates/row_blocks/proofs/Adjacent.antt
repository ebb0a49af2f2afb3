-- Columns of which each two neighbours are in order.
use Rattle.std.proofs.Common.{◌≡◌, ℕ, ◌+◌, ◌-◌, ◌<◌, List, length, map, slice_index_or, sym, ap, ◌∙◌, arith}
use Rattle.std.specs.Cmp.{IsTotalOrder}
use Rattle.std.specs.List.Sorted.{IsStrictlySortedBy}
use Rattle.std.specs.declared.cmp.Ordering.{Ordering}
use Rattle.std.specs.declared.cmp.Ordering.TheVariants.{Less}
use Rattle.std.proofs.lemmas.List.{get_or-map, get_or_default, length-map}
use Rattle.std.proofs.lemmas.Map.Keys.{Less-from_sorted, sorted_from_all_adjacent}
use Rattle.row_blocks.specs.declared.column.BlockColumn.{BlockColumn}
use Rattle.row_blocks.specs.Places.{no_column}

-- by what stands at each column
pub sorted_by : {K : Type 0} (R : K → K → Ordering) (f : BlockColumn → K) (columns : List BlockColumn) → IsTotalOrder R
    → ((k : ℕ) → k + 1 < length columns → R (f (slice_index_or columns k no_column)) (f (slice_index_or columns (k + 1) no_column)) ≡ Less)
    → IsStrictlySortedBy R (map f columns)
sorted_by R f columns total each =
    sorted_from_all_adjacent total (map f columns) (f no_column) (λ k within.
    let inside : k + 1 < length columns = omega (arith, length-map columns f, within) in
    ap (λ x. R x (slice_index_or (map f columns) (k + 1) (f no_column))) (get_or-map f columns k no_column (f no_column) (omega (arith, inside)))
    ∙ ap (R (f (slice_index_or columns k no_column))) (get_or-map f columns (k + 1) no_column (f no_column) inside)
    ∙ each k inside)

pub neighbours : {K : Type 0} (R : K → K → Ordering) (f : BlockColumn → K) (columns : List BlockColumn) (k : ℕ) → IsStrictlySortedBy R (map f columns) → k + 1 < length columns
    → R (f (slice_index_or columns k no_column)) (f (slice_index_or columns (k + 1) no_column)) ≡ Less
neighbours R f columns k sorted inside =
    sym (ap (R (f (slice_index_or columns k no_column))) (get_or-map f columns (k + 1) no_column (f no_column) inside))
    ∙ sym (ap (λ x. R x (slice_index_or (map f columns) (k + 1) (f no_column))) (get_or-map f columns k no_column (f no_column) (omega (arith, inside))))
    ∙ Less-from_sorted R (map f columns) k (k + 1) (f no_column) sorted (omega arith) (omega (arith, length-map columns f, inside))

-- a column and the one before it
pub one_before : {K : Type 0} (R : K → K → Ordering) (f : BlockColumn → K) (columns : List BlockColumn) (i : ℕ) (a b : BlockColumn) → 0 < i → i < length columns
    → a ≡ slice_index_or columns (i - 1) a → b ≡ slice_index_or columns i b → IsStrictlySortedBy R (map f columns) → R (f a) (f b) ≡ Less
one_before R f columns i a b some within first second sorted =
    let place : i - 1 + 1 ≡ i = omega (arith, some) in
    let before : i - 1 < length columns = omega (arith, within) in
    let a_is : a ≡ slice_index_or columns (i - 1) no_column = first ∙ get_or_default columns (i - 1) a no_column before in
    let b_is : b ≡ slice_index_or columns (i - 1 + 1) no_column
    = second ∙ get_or_default columns i b no_column within ∙ ap (λ (k : ℕ). slice_index_or columns k no_column) (sym place) in
    ap (λ (x : BlockColumn). R (f x) (f b)) a_is
    ∙ ap (λ (x : BlockColumn). R (f (slice_index_or columns (i - 1) no_column)) (f x)) b_is
    ∙ neighbours R f columns (i - 1) sorted (omega (arith, place, within))
