-- Rows in order of time: those at or after a horizon are the last ones.
use Rattle.std.proofs.Common.{◌≡◌, ℕ, zero, suc, ◌+◌, ◌-◌, ◌<◌, ◌≤◌, ◌⊎◌, inl, inr, Bool, true, false, List, ◌∷◌, length, drop, slice_index_or, ℤ, int_le, sym, ap, ◌∙◌, arith}
use Rattle.std.proofs.lemmas.Int.{ints}
use Rattle.std.proofs.lemmas.Bool.{cases_lt, false_from_ne_true, true_from_ne_false}
use Rattle.std.proofs.lemmas.List.{drop-drop, drop_all, drop_more, length-drop}
use Rattle.row_model.specs.declared.rows.Row.{Row}
use Rattle.row_blocks.specs.Blocks.{Block, rows_in, times_of}
use Rattle.row_blocks.specs.Held.{live_rows}
use Rattle.row_blocks.specs.Live.{time_at}
use Rattle.row_blocks.specs.Ordered.{IsFirstLive}
use Rattle.time_range.specs.Ranges.{NeverFall}
use Rattle.row_blocks.proofs.LivePlaces.{counted, counted_times, live_next, none_left, one_before}
use Rattle.row_blocks.proofs.Taking.{no_row}

-- rows below the horizon are passed over
past_old : (b : Block) (h : ℤ) (i n : ℕ) → i + n ≤ b.rows → ((k : ℕ) → i ≤ k → k < i + n → int_le h (time_at b k) ≡ false) → live_rows i h b ≡ live_rows (i + n) h b
past_old b h i zero within below = ap (λ (k : ℕ). live_rows k h b) (omega arith)
past_old b h i (suc n) within below =
    live_next b h i (omega (arith, within))
    ∙ ap (λ (x : Bool). one_before x (slice_index_or (rows_in b) i no_row) (live_rows (i + 1) h b)) (below i (omega arith) (omega arith))
    ∙ past_old b h (i + 1) n (omega (arith, within)) (λ k from to. below k (omega (arith, from)) (omega (arith, to)))
    ∙ ap (λ (k : ℕ). live_rows k h b) (omega arith)

-- rows that are all at or after the horizon stay
late_stay_on : (b : Block) (h : ℤ) (i n : ℕ) → i + n ≡ b.rows → ((k : ℕ) → i ≤ k → k < b.rows → int_le h (time_at b k) ≡ true) → live_rows i h b ≡ drop i (rows_in b)
late_stay_on b h i zero all above = none_left b h i (omega (arith, all)) ∙ sym (drop_all i (rows_in b) (omega (arith, all, counted b)))
late_stay_on b h i (suc n) all above =
    let row = slice_index_or (rows_in b) i no_row in
    live_next b h i (omega (arith, all))
    ∙ ap (λ (x : Bool). one_before x row (live_rows (i + 1) h b)) (above i (omega arith) (omega (arith, all)))
    ∙ ap (λ (l : List Row). row ∷ l) (late_stay_on b h (i + 1) n (omega (arith, all)) (λ k from to. above k (omega (arith, from)) to))
    ∙ sym (drop_more (rows_in b) i no_row (omega (arith, counted b, all)))

all_late_from : (b : Block) (h : ℤ) (skip place i : ℕ) → IsFirstLive skip place h b → place ≤ i → i ≤ b.rows → live_rows i h b ≡ drop i (rows_in b)
all_late_from b h skip place i is from within = late_stay_on b h i (b.rows - i) (omega (arith, within)) (λ k at inside. is.above k (omega (arith, at, from)) inside)

rows_from_first : (b : Block) (h : ℤ) (skip place : ℕ) → IsFirstLive skip place h b → live_rows skip h b ≡ drop place (rows_in b)
rows_from_first b h skip place is =
    let sum : skip + (place - skip) ≡ place = let behind = is.behind in omega arith in
    past_old b h skip (place - skip) (omega (arith, sum, is.within)) (λ k from to. is.below k from (omega (arith, sum, to)))
    ∙ ap (λ (k : ℕ). live_rows k h b) sum
    ∙ all_late_from b h skip place place is (omega arith) is.within

pub first_counted : (b : Block) (h : ℤ) (skip place : ℕ) → IsFirstLive skip place h b → b.rows - place ≡ length (live_rows skip h b)
first_counted b h skip place is =
    ap (λ (n : ℕ). n - place) (sym (counted b)) ∙ sym (length-drop place (rows_in b)) ∙ ap (λ (l : List Row). length l) (sym (rows_from_first b h skip place is))

pub first_behind : (b : Block) (h : ℤ) (skip place n : ℕ) → IsFirstLive skip place h b → n < length (live_rows skip h b) → live_rows (place + n) h b ≡ drop n (live_rows skip h b)
first_behind b h skip place n is few =
    let count = first_counted b h skip place is in
    all_late_from b h skip place (place + n) is (omega arith) (omega (arith, few, count))
    ∙ sym (drop-drop n place (rows_in b)) ∙ ap (drop n) (sym (rows_from_first b h skip place is))

-- some row is left behind the first so many, so there are as many
pub skip_within : (b : Block) (h : ℤ) (skip n : ℕ) → n < length (live_rows skip h b) → skip ≤ b.rows
skip_within b h skip n few = by (cases_lt b.rows skip)
  where
    by : (b.rows < skip) ⊎ (skip ≤ b.rows) → skip ≤ b.rows
    by (inr within) = within
    by (inl past) = let none = ap (λ (l : List Row). length l) (none_left b h skip (omega (arith, past))) in absurd (omega (arith, few, none))

-- ---- one look more

-- behind the first so many rows, those before one place are below the horizon, and those from another on are not
pub record AreParted (b : Block) (h : ℤ) (skip first past : ℕ) : Type 0 where
  pub behind : skip ≤ first
  pub some : first ≤ past
  pub within : past ≤ b.rows
  pub below : (i : ℕ) → skip ≤ i → i < first → int_le h (time_at b i) ≡ false
  pub above : (i : ℕ) → past ≤ i → i < b.rows → int_le h (time_at b i) ≡ true

pub late_half : (b : Block) (h : ℤ) (skip first past middle : ℕ) (late : Bool) → NeverFall (times_of (rows_in b)) → AreParted b h skip first past → first ≤ middle → middle < past
    → late ≡ int_le h (time_at b middle) → late ≡ true → AreParted b h skip first middle
late_half b h skip first past middle late order parted from to is so = record {
  behind = parted.behind;
  some = from;
  within = omega (arith, to, parted.within);
  below = parted.below;
  above = λ i at inside.
      let rise = order middle i at (omega (arith, inside, counted_times b)) in
      let here : int_le h (time_at b middle) ≡ true = sym is ∙ so in
      true_from_ne_false (int_le h (time_at b i)) (λ old. omega (arith, ints, rise, here, old));
}

pub old_half : (b : Block) (h : ℤ) (skip first past middle : ℕ) (late : Bool) → NeverFall (times_of (rows_in b)) → AreParted b h skip first past → first ≤ middle → middle < past
    → late ≡ int_le h (time_at b middle) → late ≡ false → AreParted b h skip (middle + 1) past
old_half b h skip first past middle late order parted from to is so = record {
  behind = omega (arith, parted.behind, from);
  some = omega (arith, to);
  within = parted.within;
  below = λ i at inside.
      let rise = order i middle (omega (arith, inside)) (omega (arith, to, parted.within, counted_times b)) in
      let here : int_le h (time_at b middle) ≡ false = sym is ∙ so in
      false_from_ne_true (int_le h (time_at b i)) (λ late. omega (arith, ints, rise, here, late));
  above = parted.above;
}

pub all_parted : (b : Block) (h : ℤ) (skip first past : ℕ) → AreParted b h skip first past → past ≤ first → IsFirstLive skip first h b
all_parted b h skip first past parted met = record {
  behind = parted.behind;
  within = omega (arith, met, parted.some, parted.within);
  below = parted.below;
  above = λ i at inside. parted.above i (omega (arith, at, met)) inside;
}
