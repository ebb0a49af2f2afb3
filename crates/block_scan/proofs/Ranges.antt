-- A block out of a query's range has no passing row, and one in it meets the range.
use Rattle.std.proofs.Common.{◌≡◌, ℕ, zero, suc, ◌<◌, Bool, true, false, ◌&&◌, ◌||◌, cond, List, [], ◌∷◌, length, drop, fold, slice_index_or, ℤ, pos, ◌≤ℤ◌, ◌<ℤ◌, int_le, int_lt, refl, sym, ap, ap₂, ◌∙◌, arith}
use Rattle.std.specs.Int.{int_min, int_max}
use Rattle.std.specs.List.{AllByRecursion}
use Rattle.std.proofs.lemmas.Bool.{false_from_ne_true, true_from_ne_false}
use Rattle.std.proofs.lemmas.Int.{ints, clamps}
use Rattle.row_model.specs.declared.rows.Row.{Row}
use Rattle.leaf_model.specs.declared.queries.Query.{Query}
use Rattle.leaf_model.specs.Groups.{groups, passes, least, greatest}
use Rattle.row_blocks.specs.Blocks.{Block, rows_in, times_of}
use Rattle.time_range.specs.Ranges.{IsAmong, IsRange}
use Rattle.row_blocks.specs.Held.{live_rows}
use Rattle.block_scan.specs.Scanning.{block_steps, is_from, is_up_to, meets, named_columns}
use Rattle.block_scan.proofs.Lists.{all_drop, all_filter, none_passes}
use Rattle.block_scan.proofs.Narrowed.{groups_of}

-- ---- none passes

abbrev AreOut : Query → List Row → Type 0
AreOut q rows = AllByRecursion (λ (row : Row). passes q row ≡ false) rows

too_late : (a b c : Bool) → b ≡ false → (a && (b && c)) ≡ false
too_late true b c e = ap (λ (d : Bool). d && c) e
too_late false b c e = refl

too_early : (a b : Bool) → a ≡ false → (a && b) ≡ false
too_early a b e = ap (λ (d : Bool). d && b) e

out_late : (q : Query) (from : ℤ) (rows : List Row) → q.to <ℤ from → ((i : ℕ) → i < length (times_of rows) → from ≤ℤ slice_index_or (times_of rows) i (pos 0)) → AreOut q rows
out_late q from [] lt within = tt
out_late q from (row ∷ rows) lt within =
    let here = within 0 (omega arith) in
    let no : int_le row.time q.to ≡ false = false_from_ne_true (int_le row.time q.to) (λ yes. omega (arith, ints, lt, here, yes)) in
    (too_late (int_le q.from row.time) (int_le row.time q.to) _ no, out_late q from rows lt (λ i h. within (suc i) (omega (arith, h))))

out_early : (q : Query) (to : ℤ) (rows : List Row) → to <ℤ q.from → ((i : ℕ) → i < length (times_of rows) → slice_index_or (times_of rows) i (pos 0) ≤ℤ to) → AreOut q rows
out_early q to [] lt within = tt
out_early q to (row ∷ rows) lt within =
    let here = within 0 (omega arith) in
    let no : int_le q.from row.time ≡ false = false_from_ne_true (int_le q.from row.time) (λ yes. omega (arith, ints, lt, here, yes)) in
    (too_early (int_le q.from row.time) _ no, out_early q to rows lt (λ i h. within (suc i) (omega (arith, h))))

no_groups : (q : Query) (skip : ℕ) (horizon : ℤ) (b : Block) → AreOut q (rows_in b) → groups q (live_rows skip horizon b) ≡ []
no_groups q skip horizon b out =
    ap (groups_of q) (none_passes (passes q) (live_rows skip horizon b)
    (all_filter (λ (row : Row). passes q row ≡ false) (λ (row : Row). int_le horizon row.time) (drop skip (rows_in b)) (all_drop (λ (row : Row). passes q row ≡ false) skip (rows_in b) out)))

pub none_late : (q : Query) (skip : ℕ) (horizon : ℤ) (b : Block) (from to : ℤ) → IsRange (times_of (rows_in b)) from to → q.to <ℤ from → groups q (live_rows skip horizon b) ≡ []
none_late q skip horizon b from to range lt = no_groups q skip horizon b (out_late q from (rows_in b) lt (λ i h. (range.within i h).0))

pub none_early : (q : Query) (skip : ℕ) (horizon : ℤ) (b : Block) (from to : ℤ) → IsRange (times_of (rows_in b)) from to → to <ℤ q.from → groups q (live_rows skip horizon b) ≡ []
none_early q skip horizon b from to range lt = no_groups q skip horizon b (out_early q to (rows_in b) lt (λ i h. (range.within i h).1))

-- ---- the ranges meet

min_first : (n : ℤ) (ns : List ℤ) → fold int_min n ns ≤ℤ n
min_first n [] = omega (arith, ints)
min_first n (m ∷ ns) = let rest = min_first (int_min n m) ns in omega (arith, ints, clamps, rest)

min_each : (n : ℤ) (ns : List ℤ) (i : ℕ) → i < length ns → fold int_min n ns ≤ℤ slice_index_or ns i (pos 0)
min_each n [] i h = absurd (omega (arith, h))
min_each n (m ∷ ns) zero h = let rest = min_first (int_min n m) ns in omega (arith, ints, clamps, rest)
min_each n (m ∷ ns) (suc i) h = min_each (int_min n m) ns i (omega (arith, h))

max_first : (n : ℤ) (ns : List ℤ) → n ≤ℤ fold int_max n ns
max_first n [] = omega (arith, ints)
max_first n (m ∷ ns) = let rest = max_first (int_max n m) ns in omega (arith, ints, clamps, rest)

max_each : (n : ℤ) (ns : List ℤ) (i : ℕ) → i < length ns → slice_index_or ns i (pos 0) ≤ℤ fold int_max n ns
max_each n [] i h = absurd (omega (arith, h))
max_each n (m ∷ ns) zero h = let rest = max_first (int_max n m) ns in omega (arith, ints, clamps, rest)
max_each n (m ∷ ns) (suc i) h = max_each (int_max n m) ns i (omega (arith, h))

up_to : (to from : ℤ) (times : List ℤ) → IsAmong from times → from ≤ℤ to → is_up_to to (least times) ≡ true
up_to to from [] among h = absurd (omega (arith, among.1))
up_to to from (n ∷ ns) (zero, inside, at) h =
    let first = min_first n ns in
    true_from_ne_false (int_le (fold int_min n ns) to) (λ no. omega (arith, ints, first, at, h, no))
up_to to from (n ∷ ns) (suc i, inside, at) h =
    let each = min_each n ns i (omega (arith, inside)) in
    true_from_ne_false (int_le (fold int_min n ns) to) (λ no. omega (arith, ints, each, at, h, no))

from_on : (from to : ℤ) (times : List ℤ) → IsAmong to times → from ≤ℤ to → is_from from (greatest times) ≡ true
from_on from to [] among h = absurd (omega (arith, among.1))
from_on from to (n ∷ ns) (zero, inside, at) h =
    let first = max_first n ns in
    true_from_ne_false (int_le from (fold int_max n ns)) (λ no. omega (arith, ints, first, at, h, no))
from_on from to (n ∷ ns) (suc i, inside, at) h =
    let each = max_each n ns i (omega (arith, inside)) in
    true_from_ne_false (int_le from (fold int_max n ns)) (λ no. omega (arith, ints, each, at, h, no))

pub steps_met : (q : Query) (b : Block) → meets q b ≡ true → block_steps q b ≡ length (named_columns q b.columns)
steps_met q b met = ap (λ (m : Bool). cond m (length (named_columns q b.columns)) 0) met

-- ---- by the test of two ranges

pub apart : (q : Query) (b : Block) (from to : ℤ) (r : Bool) → IsRange (times_of (rows_in b)) from to → r ≡ (int_lt q.to from || int_lt to q.from) → r ≡ true
    → (skip : ℕ) (horizon : ℤ) → groups q (live_rows skip horizon b) ≡ []
apart q b from to r range is e skip horizon = by (int_lt q.to from) refl (sym is ∙ e)
  where
    by : (x : Bool) → int_lt q.to from ≡ x → (x || int_lt to q.from) ≡ true → groups q (live_rows skip horizon b) ≡ []
    by true late f = none_late q skip horizon b from to range (omega (arith, ints, late))
    by false late f = none_early q skip horizon b from to range (omega (arith, ints, f))

pub together : (q : Query) (b : Block) (from to : ℤ) (r : Bool) → IsRange (times_of (rows_in b)) from to → r ≡ (int_lt q.to from || int_lt to q.from) → r ≡ false → meets q b ≡ true
together q b from to r range is e = by (int_lt q.to from) refl (sym is ∙ e)
  where
    by : (x : Bool) → int_lt q.to from ≡ x → (x || int_lt to q.from) ≡ false → meets q b ≡ true
    by true late f = absurd cc
    by false late f =
        ap₂ (λ (x y : Bool). x && y) (up_to q.to from (times_of (rows_in b)) range.first (omega (arith, ints, late))) (from_on q.from to (times_of (rows_in b)) range.last (omega (arith, ints, f)))
