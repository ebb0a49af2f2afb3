-- Times in their order: how many of a block's rows are at or after a horizon is where these begin.
use Rattle.std.proofs.Common.{◌≡◌, ℕ, zero, suc, ◌+◌, ◌-◌, ◌<◌, ◌≤◌, Bool, true, false, cond, List, [], ◌∷◌, length, count_by, slice_index_or, ℤ, pos, int_le, IsPermutation, refl, sym, ap, ◌∙◌, arith}
use Rattle.std.proofs.lemmas.Bool.{false_from_ne_true, true_from_ne_false}
use Rattle.std.proofs.lemmas.Int.{ints}
use Rattle.std.proofs.lemmas.List.Sums.{length-filter, sum_by-cons}
use Rattle.std.proofs.lemmas.List.Sorted.{sum_by-IsPermutation}
use Rattle.row_model.specs.declared.rows.Row.{Row}
use Rattle.leaf_model.specs.Content.{rows_from}
use Rattle.row_blocks.specs.Blocks.{Block, rows_in, times_of}
use Rattle.row_blocks.specs.Held.{live_rows}
use Rattle.row_blocks.specs.Ordered.{PartsTimes}
use Rattle.time_range.specs.Ranges.{NeverFall}

-- ---- one look more

-- the times before one place are below the horizon, and those from another on are not
pub record AreHalved (times : List ℤ) (h : ℤ) (first past : ℕ) : Type 0 where
  pub some : first ≤ past
  pub within : past ≤ length times
  pub below : (i : ℕ) → i < first → int_le h (slice_index_or times i (pos 0)) ≡ false
  pub above : (i : ℕ) → past ≤ i → i < length times → int_le h (slice_index_or times i (pos 0)) ≡ true

pub late_part : (times : List ℤ) (h : ℤ) (first past middle : ℕ) → NeverFall times → AreHalved times h first past → first ≤ middle → middle < past → int_le h (slice_index_or times middle (pos 0)) ≡ true → AreHalved times h first middle
late_part times h first past middle order halved from to here = record {
  some = from;
  within = omega (arith, to, halved.within);
  below = halved.below;
  above = λ i at inside.
      let rise = order middle i at inside in
      true_from_ne_false (int_le h (slice_index_or times i (pos 0))) (λ old. omega (arith, ints, rise, here, old));
}

pub old_part : (times : List ℤ) (h : ℤ) (first past middle : ℕ) → NeverFall times → AreHalved times h first past → first ≤ middle → middle < past → int_le h (slice_index_or times middle (pos 0)) ≡ false → AreHalved times h (middle + 1) past
old_part times h first past middle order halved from to here = record {
  some = omega (arith, to);
  within = halved.within;
  below = λ i at.
      let rise = order i middle (omega (arith, at)) (omega (arith, to, halved.within)) in
      false_from_ne_true (int_le h (slice_index_or times i (pos 0))) (λ late. omega (arith, ints, rise, here, late));
  above = halved.above;
}

-- ---- how many there are

abbrev late_count : ℤ → List ℤ → ℕ
late_count h times = count_by (λ (t : ℤ). int_le h t) times

one_more : (h t : ℤ) (times : List ℤ) (b : Bool) → int_le h t ≡ b → late_count h (t ∷ times) ≡ cond b 1 0 + late_count h times
one_more h t times b is = sum_by-cons (λ (x : ℤ). cond (int_le h x) 1 0) t times ∙ ap (λ (c : Bool). cond c 1 0 + late_count h times) is

all_late : (h : ℤ) (times : List ℤ) → ((i : ℕ) → i < length times → int_le h (slice_index_or times i (pos 0)) ≡ true) → late_count h times ≡ length times
all_late h [] late = refl
all_late h (t ∷ times) late = one_more h t times true (late 0 (omega arith)) ∙ omega (arith, all_late h times (λ i inside. late (suc i) (omega (arith, inside))))

late_from : (h : ℤ) (times : List ℤ) (place : ℕ) → place ≤ length times → ((i : ℕ) → i < place → int_le h (slice_index_or times i (pos 0)) ≡ false)
    → ((i : ℕ) → place ≤ i → i < length times → int_le h (slice_index_or times i (pos 0)) ≡ true) → late_count h times + place ≡ length times
late_from h times zero within below above = omega (arith, all_late h times (λ i inside. above i (omega arith) inside))
late_from h [] (suc place) within below above = absurd (omega (arith, within))
late_from h (t ∷ times) (suc place) within below above =
    let first = one_more h t times false (below 0 (omega arith)) in
    let rest = late_from h times place (omega (arith, within)) (λ i to. below (suc i) (omega (arith, to))) (λ i from inside. above (suc i) (omega (arith, from)) (omega (arith, inside))) in
    omega (arith, first, rest)

rows_late : (h : ℤ) (rows : List Row) → length (rows_from h rows) ≡ late_count h (times_of rows)
rows_late h [] = refl
rows_late h (row ∷ rows) =
    length-filter (λ (r : Row). int_le h r.time) (row ∷ rows) ∙ sum_by-cons (λ (r : Row). cond (int_le h r.time) 1 0) row rows
    ∙ ap (λ (n : ℕ). cond (int_le h row.time) 1 0 + n) (sym (length-filter (λ (r : Row). int_le h r.time) rows) ∙ rows_late h rows)
    ∙ sym (one_more h row.time (times_of rows) (int_le h row.time) refl)

pub sorted_counted : (b : Block) (h : ℤ) (sorted : List ℤ) (place : ℕ) → IsPermutation (times_of (rows_in b)) sorted → PartsTimes sorted h place → length sorted - place ≡ length (live_rows 0 h b)
sorted_counted b h sorted place same parts =
    let late = late_from h sorted place parts.within parts.below parts.above in
    let moved : late_count h sorted ≡ late_count h (times_of (rows_in b)) = sum_by-IsPermutation (λ (t : ℤ). cond (int_le h t) 1 0) (times_of (rows_in b)) sorted same in
    omega (arith, late, moved, rows_late h (rows_in b))
