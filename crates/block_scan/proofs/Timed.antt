-- Rows that differ in their times alone have the same groups, where a query does not ask for times and all are in its
-- range.
use Rattle.std.proofs.Common.{◌≡◌, ℕ, ◌+◌, ◌-◌, ◌<◌, ◌≤◌, Bool, true, false, ◌&&◌, ◌||◌, cond, List, [], ◌∷◌, length, map, filter, slice_index_or, ℤ, pos, ◌≤ℤ◌, int_le, Option, Some, refl, sym, ap, ap₂, subst, ◌∙◌, arith}
use Rattle.std.specs.Prelude.{bytes_eq, option_and_then}
use Rattle.std.specs.List.{AllByRecursion, list_all, list_any, cons_option, range_with_len}
use Rattle.std.specs.Ordering.{is_eq}
use Rattle.std.proofs.lemmas.Bool.{false_from_ne_true, true_from_ne_false}
use Rattle.std.proofs.lemmas.Int.{ints}
use Rattle.std.proofs.lemmas.List.{length-map}
use Rattle.std.proofs.lemmas.List.Elements.{filter_agree}
use Rattle.std.proofs.lemmas.List.FromFn.{get_or-map-range_with_len, length-map-range_with_len}
use Rattle.std.proofs.lemmas.Slice.Eq.{bytes_eq-Decides}
use Rattle.row_model.specs.declared.rows.Value.TheVariants as value
use Rattle.row_model.specs.declared.rows.Row.{Row}
use Rattle.leaf_model.specs.declared.queries.Cond.{Cond}
use Rattle.leaf_model.specs.declared.queries.Agg.{Agg}
use Rattle.leaf_model.specs.declared.queries.Agg.TheVariants.{Count, Sum, Min, Max, Avg}
use Rattle.leaf_model.specs.declared.queries.Query.{Query}
use Rattle.leaf_model.specs.declared.groups.Key.{Key}
use Rattle.leaf_model.specs.declared.groups.Fold.{Fold}
use Rattle.row_model.specs.Values.{time_name}
use Rattle.std.specs.BTreeSet.{insert_key}
use Rattle.leaf_model.specs.Groups.{agg_ints, as_int, cell_value, cond_accepts, distinct_keys, fold_of, group_of, groups, ints_of, key_of, keys_cmp, keys_of, passes, rows_with, value_of}
use Rattle.row_blocks.specs.declared.column.BlockColumn.{BlockColumn}
use Rattle.row_blocks.specs.Blocks.{Block, row_at, rows_in, time_in_cell, times_of, value_in}
use Rattle.time_range.specs.Ranges.{IsRange}
use Rattle.row_blocks.specs.Held.{live_rows}
use Rattle.block_scan.specs.Reads.{is_wanted, row_of, wanted_places}
use Rattle.block_scan.specs.Scanning.{is_of_agg, is_of_cond}
use Rattle.block_scan.specs.Timed.{AreBetween, StandForTimes}
use Rattle.block_scan.proofs.Folded.{block, groups_in_range, in_range, no_more_places, rows_wanted}
use Rattle.block_scan.proofs.Lists.{filter_alike, filter_mapped, filter_within, map_map, map_within}
use Rattle.block_scan.proofs.Narrowed.{groups_of, itself}

-- a row at another time
abbrev pub timed : ℤ → Row → Row
timed t row = record { time = t; cells = row.cells }

-- ---- no name of a query is `time`

abbrev IsOther : List ℕ → Type 0
IsOther name = bytes_eq name time_name ≡ false

abbrev IsOtherAgg : Agg → Type 0
IsOtherAgg agg = (name : List ℕ) → is_of_agg name agg ≡ true → IsOther name

either_false : (a b : Bool) → (a || b) ≡ false → (a ≡ false) × (b ≡ false)
either_false true b e = absurd cc
either_false false b e = (refl, e)

other_way : (name : List ℕ) → bytes_eq time_name name ≡ false → IsOther name
other_way name e = false_from_ne_true (bytes_eq name time_name) (λ yes. by e ((bytes_eq-Decides name time_name).0 yes))
  where
    by : bytes_eq time_name name ≡ false → name ≡ time_name → ⊥
    by unlike same = let alike = ap (bytes_eq time_name) same ∙ itself time_name in absurd cc

other_agg : (agg : Agg) → is_of_agg time_name agg ≡ false → IsOtherAgg agg
other_agg Count e = λ name is. absurd cc
other_agg (Sum other) e = λ name is. ap (λ (n : List ℕ). bytes_eq n time_name) ((bytes_eq-Decides name other).0 is) ∙ other_way other e
other_agg (Min other) e = λ name is. ap (λ (n : List ℕ). bytes_eq n time_name) ((bytes_eq-Decides name other).0 is) ∙ other_way other e
other_agg (Max other) e = λ name is. ap (λ (n : List ℕ). bytes_eq n time_name) ((bytes_eq-Decides name other).0 is) ∙ other_way other e
other_agg (Avg other) e = λ name is. ap (λ (n : List ℕ). bytes_eq n time_name) ((bytes_eq-Decides name other).0 is) ∙ other_way other e

other_conds : (conds : List Cond) → list_any (is_of_cond time_name) conds ≡ false → AllByRecursion (λ (c : Cond). IsOther c.name) conds
other_conds [] e = tt
other_conds (c ∷ conds) e = let both = either_false (is_of_cond time_name c) (list_any (is_of_cond time_name) conds) e in (other_way c.name both.0, other_conds conds both.1)

other_keys : (keys : List (List ℕ)) → list_any (bytes_eq time_name) keys ≡ false → AllByRecursion IsOther keys
other_keys [] e = tt
other_keys (name ∷ keys) e = let both = either_false (bytes_eq time_name name) (list_any (bytes_eq time_name) keys) e in (other_way name both.0, other_keys keys both.1)

other_aggs : (aggs : List Agg) → list_any (is_of_agg time_name) aggs ≡ false → AllByRecursion IsOtherAgg aggs
other_aggs [] e = tt
other_aggs (agg ∷ aggs) e = let both = either_false (is_of_agg time_name agg) (list_any (is_of_agg time_name) aggs) e in (other_agg agg both.0, other_aggs aggs both.1)

-- a query asks for no cell named `time`
record IsTimeless (q : Query) : Type 0 where
  conds : AllByRecursion (λ (c : Cond). IsOther c.name) q.conds
  keys : AllByRecursion IsOther q.keys
  aggs : AllByRecursion IsOtherAgg q.aggs

timeless : (q : Query) → (list_any (is_of_cond time_name) q.conds || (list_any (bytes_eq time_name) q.keys || list_any (is_of_agg time_name) q.aggs)) ≡ false → IsTimeless q
timeless q e =
    let first = either_false (list_any (is_of_cond time_name) q.conds) _ e in
    let others = either_false (list_any (bytes_eq time_name) q.keys) (list_any (is_of_agg time_name) q.aggs) first.1 in
    record { conds = other_conds q.conds first.0; keys = other_keys q.keys others.0; aggs = other_aggs q.aggs others.1 }

-- ---- what a query makes of rows at another time

module _ (t : ℤ) where
  value_timed : (name : List ℕ) (row : Row) → IsOther name → value_of name (timed t row) ≡ value_of name row
  value_timed name row e =
      ap (λ (b : Bool). cond b (Some (value.Int t)) (cell_value name row.cells)) e
      ∙ sym (ap (λ (b : Bool). cond b (Some (value.Int row.time)) (cell_value name row.cells)) e)

  conds_timed : (row : Row) (conds : List Cond) → AllByRecursion (λ (c : Cond). IsOther c.name) conds
      → list_all (λ (c : Cond). cond_accepts c (value_of c.name (timed t row))) conds ≡ list_all (λ (c : Cond). cond_accepts c (value_of c.name row)) conds
  conds_timed row [] other = refl
  conds_timed row (c ∷ conds) other = ap₂ (λ (a b : Bool). a && b) (ap (cond_accepts c) (value_timed c.name row other.0)) (conds_timed row conds other.1)

  names_timed : (row : Row) (names : List (List ℕ)) → AllByRecursion IsOther names → map (λ name. key_of (value_of name (timed t row))) names ≡ map (λ name. key_of (value_of name row)) names
  names_timed row [] other = refl
  names_timed row (name ∷ names) other = ap₂ (λ (k : Key) (ks : List Key). k ∷ ks) (ap key_of (value_timed name row other.0)) (names_timed row names other.1)

  ints_timed : (name : List ℕ) → IsOther name → (rows : List Row) → ints_of name (map (timed t) rows) ≡ ints_of name rows
  ints_timed name e [] = refl
  ints_timed name e (row ∷ rows) = ap₂ (λ (n : Option ℤ) (ns : List ℤ). cons_option n ns) (ap (option_and_then as_int) (value_timed name row e)) (ints_timed name e rows)

  agg_timed : (agg : Agg) → IsOtherAgg agg → (rows : List Row) → agg_ints agg (map (timed t) rows) ≡ agg_ints agg rows
  agg_timed Count other rows = refl
  agg_timed (Sum name) other rows = ints_timed name (other name (itself name)) rows
  agg_timed (Min name) other rows = ints_timed name (other name (itself name)) rows
  agg_timed (Max name) other rows = ints_timed name (other name (itself name)) rows
  agg_timed (Avg name) other rows = ints_timed name (other name (itself name)) rows

  folds_timed : (rows : List Row) (aggs : List Agg) → AllByRecursion IsOtherAgg aggs
      → map (λ agg. fold_of (agg_ints agg (map (timed t) rows))) aggs ≡ map (λ agg. fold_of (agg_ints agg rows)) aggs
  folds_timed rows [] other = refl
  folds_timed rows (agg ∷ aggs) other = ap₂ (λ (f : Fold) (fs : List Fold). f ∷ fs) (ap fold_of (agg_timed agg other.0 rows)) (folds_timed rows aggs other.1)

  module _ (q : Query) (none : IsTimeless q) where
    keys_timed : (row : Row) → keys_of q (timed t row) ≡ keys_of q row
    keys_timed row = names_timed row q.keys none.keys

    group_timed : (keys : List Key) (rows : List Row) → group_of q keys (map (timed t) rows) ≡ group_of q keys rows
    group_timed keys rows =
        let count = length-map rows (timed t) in
        let folds = folds_timed rows q.aggs none.aggs in
        λ i. record { keys = keys; count = count i; folds = folds i }

    distinct_timed : (rows : List Row) → distinct_keys q (map (timed t) rows) ≡ distinct_keys q rows
    distinct_timed [] = refl
    distinct_timed (row ∷ rows) = ap₂ (λ (k : List Key) (ks : List (List Key)). insert_key keys_cmp ks k) (keys_timed row) (distinct_timed rows)

    with_timed : (keys : List Key) (rows : List Row) → rows_with q keys (map (timed t) rows) ≡ map (timed t) (rows_with q keys rows)
    with_timed keys rows =
        filter_mapped (λ (row : Row). is_eq (keys_cmp (keys_of q row) keys)) (timed t) rows
        ∙ ap (map (timed t)) (filter_agree _ (λ (row : Row). is_eq (keys_cmp (keys_of q row) keys)) (λ row. ap (λ (ks : List Key). is_eq (keys_cmp ks keys)) (keys_timed row)) rows)

    groups_of_timed : (rows : List Row) → groups_of q (map (timed t) rows) ≡ groups_of q rows
    groups_of_timed rows =
        let each : (keys : List Key) → group_of q keys (rows_with q keys (map (timed t) rows)) ≡ group_of q keys (rows_with q keys rows)
        = λ keys. ap (group_of q keys) (with_timed keys rows) ∙ group_timed keys (rows_with q keys rows) in
        let keys = distinct_timed rows in
        λ i. map (λ ks. each ks i) (keys i)

    passes_timed : (int_le q.from t && int_le t q.to) ≡ true → (row : Row) → in_range q row ≡ true → passes q (timed t row) ≡ passes q row
    passes_timed here row there = by (int_le q.from t) (int_le t q.to) (int_le q.from row.time) (int_le row.time q.to) here there (conds_timed row q.conds none.conds)
      where
        by : (a b c d : Bool) {x y : Bool} → (a && b) ≡ true → (c && d) ≡ true → x ≡ y → (a && (b && x)) ≡ (c && (d && y))
        by true true true true e f same = same
        by true true true false e f same = absurd cc
        by true true false d e f same = absurd cc
        by true false c d e f same = absurd cc
        by false b c d e f same = absurd cc

    groups_timed : (int_le q.from t && int_le t q.to) ≡ true → (rows : List Row) → AllByRecursion (λ (row : Row). in_range q row ≡ true) rows → groups q (map (timed t) rows) ≡ groups q rows
    groups_timed here rows all =
        ap (groups_of q) (filter_mapped (passes q) (timed t) rows
        ∙ ap (map (timed t)) (filter_alike (λ (row : Row). in_range q row ≡ true) (λ row. passes q (timed t row)) (passes q) (passes_timed here) rows all))
        ∙ groups_of_timed (filter (passes q) rows)

-- ---- times between two that are wanted

all_in_range : (q : Query) (rows : List Row) → AllByRecursion (λ (row : Row). in_range q row ≡ true) (filter (in_range q) rows)
all_in_range q [] = tt
all_in_range q (row ∷ rows) = by (in_range q row) refl (all_in_range q rows)
  where
    by : (b : Bool) → in_range q row ≡ b → AllByRecursion (λ (r : Row). in_range q r ≡ true) (filter (in_range q) rows)
        → AllByRecursion (λ (r : Row). in_range q r ≡ true) (cond b (row ∷ filter (in_range q) rows) (filter (in_range q) rows))
    by true e rest = (e, rest)
    by false e rest = rest

both_true : (a b : Bool) → (a && b) ≡ true → (a ≡ true) × (b ≡ true)
both_true true b e = (refl, e)
both_true false b e = absurd cc

wanted_between : (q : Query) (horizon from to t : ℤ) → is_wanted q horizon from ≡ true → is_wanted q horizon to ≡ true → from ≤ℤ t → t ≤ℤ to → is_wanted q horizon t ≡ true
wanted_between q horizon from to t low high above below =
    let a = both_true (int_le horizon from) _ low in
    let b = both_true (int_le q.from from) _ a.1 in
    let c = both_true (int_le horizon to) _ high in
    let d = both_true (int_le q.from to) _ c.1 in
    let live : int_le horizon t ≡ true = true_from_ne_false (int_le horizon t) (λ no. omega (arith, ints, a.0, above, no)) in
    let late : int_le q.from t ≡ true = true_from_ne_false (int_le q.from t) (λ no. omega (arith, ints, b.0, above, no)) in
    let early : int_le t q.to ≡ true = true_from_ne_false (int_le t q.to) (λ no. omega (arith, ints, d.1, below, no)) in
    ap₂ (λ (x y : Bool). x && y) live (ap₂ (λ (x y : Bool). x && y) late early)

-- times that are read, as a list
abbrev read_times : ℕ → BlockColumn → List ℤ
read_times rows times = map (λ i. time_in_cell (value_in times.bytes i)) (range_with_len 0 rows)

-- the least and the greatest time of a block lie around each of its times
pub range_between : (b : Block) (rows : ℕ) (times : BlockColumn) (others : List BlockColumn) (from to low high : ℤ) → rows ≡ b.rows → b.columns ≡ times ∷ others
    → IsRange (times_of (rows_in b)) from to → low ≡ from → high ≡ to → AreBetween rows times low high
range_between b rows times others from to low high counted columns range first last = λ i h.
    let time = λ (k : ℕ). (row_at (times ∷ others) k).time in
    let each : times_of (rows_in b) ≡ map time (range_with_len 0 b.rows)
    = ap (λ (cs : List BlockColumn). times_of (map (row_at cs) (range_with_len 0 b.rows))) columns ∙ map_map (λ (row : Row). row.time) (row_at (times ∷ others)) (range_with_len 0 b.rows) in
    let count = ap (λ (l : List ℤ). length l) each ∙ length-map-range_with_len time 0 b.rows in
    let at : slice_index_or (times_of (rows_in b)) i (pos 0) ≡ time_in_cell (value_in times.bytes i)
    = ap (λ (l : List ℤ). slice_index_or l i (pos 0)) each ∙ get_or-map-range_with_len time 0 b.rows i i (pos 0) (omega (arith, h, counted)) (omega arith) in
    let both = range.within i (omega (arith, h, counted, count)) in (
      subst (λ (t : ℤ). t ≤ℤ time_in_cell (value_in times.bytes i)) (sym first) (subst (λ (t : ℤ). from ≤ℤ t) at both.0),
      subst (λ (t : ℤ). time_in_cell (value_in times.bytes i) ≤ℤ t) (sym last) (subst (λ (t : ℤ). t ≤ℤ to) at both.1),
    )

-- one time stands for all, where all are wanted
pub alike_stand : (q : Query) (rows : ℕ) (times : BlockColumn) (skip : ℕ) (horizon from to : ℤ) (found : List ℤ) → skip ≤ rows → AreBetween rows times from to
    → (is_wanted q horizon from && is_wanted q horizon to) ≡ true
    → (list_any (is_of_cond time_name) q.conds || (list_any (bytes_eq time_name) q.keys || list_any (is_of_agg time_name) q.aggs)) ≡ false
    → length found ≡ rows → ((i : ℕ) → i < rows → slice_index_or found i (pos 0) ≡ from) → StandForTimes q rows times skip horizon found
alike_stand q rows times skip horizon from to found some between wanted none count alike = record {
  count = count;
  same = λ others.
      let f = row_of ts others in
      let g = row_of found others in
      ap (λ (l : List ℕ). groups q (map g l)) places
      ∙ ap (groups q) (map_within g (λ i. timed from (f i)) (λ i. is_wanted q horizon (slice_index_or ts i (pos 0))) skip (length ts - skip)
      (λ i h. ap (λ (t : ℤ). record { time = t; cells = (f i).cells }) (alike i (inside i h)))
      ∙ sym (map_map (timed from) f (wanted_places q horizon ts skip))
      ∙ ap (map (timed from)) (rows_wanted q rows times others ts skip horizon long some each))
      ∙ groups_timed from q (timeless q none) (both_true (int_le horizon from) _ ends.0).1
      (filter (in_range q) (live_rows skip horizon (block q rows times others ts skip horizon long some each))) (all_in_range q (live_rows skip horizon (block q rows times others ts skip horizon long some each)))
      ∙ groups_in_range q (live_rows skip horizon (block q rows times others ts skip horizon long some each));
  few = λ others.
      let same = ap (λ (l : List ℕ). length l) places in
      omega (arith, same, no_more_places q rows times others ts skip horizon long some each);
}
  where
    ts : List ℤ
    ts = read_times rows times

    long : length ts ≡ rows
    long = length-map-range_with_len (λ i. time_in_cell (value_in times.bytes i)) 0 rows

    each : (i : ℕ) → i < rows → slice_index_or ts i (pos 0) ≡ time_in_cell (value_in times.bytes i)
    each i h = get_or-map-range_with_len (λ i. time_in_cell (value_in times.bytes i)) 0 rows i i (pos 0) h (omega arith)

    ends : (is_wanted q horizon from ≡ true) × (is_wanted q horizon to ≡ true)
    ends = both_true (is_wanted q horizon from) (is_wanted q horizon to) wanted

    inside : (i : ℕ) → i < skip + (length ts - skip) → i < rows
    inside i h = omega (arith, h, long, some)

    places : wanted_places q horizon found skip ≡ wanted_places q horizon ts skip
    places =
        let same : length found - skip ≡ length ts - skip = omega (arith, count, long) in
        ap (λ (n : ℕ). filter (λ i. is_wanted q horizon (slice_index_or found i (pos 0))) (range_with_len skip n)) same
        ∙ filter_within (λ i. is_wanted q horizon (slice_index_or found i (pos 0))) (λ i. is_wanted q horizon (slice_index_or ts i (pos 0))) skip (length ts - skip)
        (λ i h. ap (is_wanted q horizon) (alike i (inside i h)) ∙ ends.0
        ∙ sym (ap (is_wanted q horizon) (each i (inside i h)) ∙ wanted_between q horizon from to (time_in_cell (value_in times.bytes i)) ends.0 ends.1 (between i (inside i h)).0 (between i (inside i h)).1))

-- and so do the times themselves
pub own_stand : (q : Query) (rows : ℕ) (times : BlockColumn) (skip : ℕ) (horizon : ℤ) (found : List ℤ) → skip ≤ rows
    → length found ≡ rows → ((i : ℕ) → i < rows → slice_index_or found i (pos 0) ≡ time_in_cell (value_in times.bytes i)) → StandForTimes q rows times skip horizon found
own_stand q rows times skip horizon found some count each = record {
  count = count;
  same = λ others.
      ap (groups q) (rows_wanted q rows times others found skip horizon count some each)
      ∙ groups_in_range q (live_rows skip horizon (record { rows = rows; columns = times ∷ others }));
  few = λ others. no_more_places q rows times others found skip horizon count some each;
}
