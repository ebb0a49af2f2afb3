-- A block whose rows are all later than a query's range does not meet it, so that of two blocks the other alone is
-- looked at.
use Rattle.std.proofs.Common.{◌≡◌, ℕ, suc, ◌<◌, ◌≤◌, Bool, true, false, ◌&&◌, cond, List, [], ◌∷◌, length, fold, slice_index_or, ℤ, pos, ◌≤ℤ◌, ◌<ℤ◌, int_le, int_lt, refl, sym, ap, subst, ◌∙◌, arith}
use Rattle.std.specs.Int.{int_min}
use Rattle.std.proofs.lemmas.Bool.{false_from_ne_true}
use Rattle.std.proofs.lemmas.Int.{ints, clamps}
use Rattle.std.proofs.lemmas.List.Sums.{length-filter, count_by-le-length}
use Rattle.leaf_model.specs.declared.queries.Query.{Query}
use Rattle.leaf_model.specs.Groups.{least, greatest}
use Rattle.row_blocks.specs.declared.column.BlockColumn.{BlockColumn}
use Rattle.row_blocks.specs.Blocks.{Block, rows_in, times_of}
use Rattle.time_range.specs.Ranges.{IsRange}
use Rattle.block_scan.specs.Scanning.{block_steps, is_from, is_named, is_up_to, meets, most_steps, named_columns}

least_from : (from n : ℤ) (ns : List ℤ) → from ≤ℤ n → ((i : ℕ) → i < length ns → from ≤ℤ slice_index_or ns i (pos 0)) → from ≤ℤ fold int_min n ns
least_from from n [] here each = here
least_from from n (m ∷ ns) here each =
    let next = each 0 (omega arith) in
    least_from from (int_min n m) ns (omega (arith, ints, clamps, here, next)) (λ i h. each (suc i) (omega (arith, h)))

none_up_to : (to from : ℤ) (times : List ℤ) → ((i : ℕ) → i < length times → from ≤ℤ slice_index_or times i (pos 0)) → to <ℤ from → is_up_to to (least times) ≡ false
none_up_to to from [] each lt = refl
none_up_to to from (n ∷ ns) each lt =
    let all = least_from from n ns (each 0 (omega arith)) (λ i h. each (suc i) (omega (arith, h))) in
    false_from_ne_true (int_le (fold int_min n ns) to) (λ yes. omega (arith, ints, all, lt, yes))

pub later : (q : Query) (b : Block) (from to : ℤ) (r : Bool) → IsRange (times_of (rows_in b)) from to → r ≡ int_lt q.to from → r ≡ true → meets q b ≡ false
later q b from to r range is e =
    let lt : int_lt q.to from ≡ true = sym is ∙ e in
    ap (λ (x : Bool). x && is_from q.from (greatest (times_of (rows_in b)))) (none_up_to q.to from (times_of (rows_in b)) (λ i h. (range.within i h).0) (omega (arith, ints, lt)))

few_named : (q : Query) (columns : List BlockColumn) → length (named_columns q columns) ≤ length columns
few_named q columns =
    let named = length-filter (λ (c : BlockColumn). is_named q c.name) columns in
    let few = count_by-le-length (λ (c : BlockColumn). is_named q c.name) columns in
    omega (arith, named, few)

steps_within : (q : Query) (b : Block) → block_steps q b ≤ length b.columns
steps_within q b = by (meets q b)
  where
    by : (m : Bool) → cond m (length (named_columns q b.columns)) 0 ≤ length b.columns
    by true = few_named q b.columns
    by false = omega arith

no_steps : (q : Query) (b : Block) → meets q b ≡ false → block_steps q b ≡ 0
no_steps q b out = ap (λ (m : Bool). cond m (length (named_columns q b.columns)) 0) out

both_steps : (q : Query) (near far : Block) → length near.columns ≡ 2 → meets q far ≡ false → most_steps q (near ∷ far ∷ []) ≤ 2
both_steps q near far two out =
    let here = steps_within q near in
    let there = no_steps q far out in
    omega (arith, here, two, there)

pub one_of_two : (q : Query) (blocks : List Block) (near far : Block) → 2 ≤ length blocks → length blocks < 3 → near ≡ slice_index_or blocks 0 near → far ≡ slice_index_or blocks 1 far
    → length near.columns ≡ 2 → meets q far ≡ false → most_steps q blocks ≤ 2
one_of_two q [] near far least most first second two out = absurd (omega (arith, least))
one_of_two q (a ∷ []) near far least most first second two out = absurd (omega (arith, least))
one_of_two q (a ∷ b ∷ []) near far least most first second two out =
    both_steps q a b (subst (λ (x : Block). length x.columns ≡ 2) first two) (subst (λ (x : Block). meets q x ≡ false) second out)
one_of_two q (a ∷ b ∷ c ∷ blocks) near far least most first second two out = absurd (omega (arith, most))
