-- Rows of a block at or after a horizon, one place after another.
use Rattle.std.proofs.Common.{◌≡◌, ℕ, zero, suc, ◌+◌, ◌-◌, ◌<◌, ◌≤◌, Bool, true, false, ◌||◌, cond, List, [], ◌∷◌, ◌++◌, length, drop, get_or, slice_index_or, ℤ, pos, ◌≤ℤ◌, int_le, Option, Some, None, refl, sym, ap, subst, ◌∙◌, arith}
use Rattle.std.specs.List.{AllByRecursion, list_any}
use Rattle.std.specs.Int.{from_bool}
use Rattle.std.proofs.lemmas.Bool.{false_from_ne_true, true_from_ne_false}
use Rattle.std.proofs.lemmas.Int.{ints}
use Rattle.std.proofs.lemmas.List.{append-nil, drop-drop, drop_all, drop_more, get_or-map, length-drop, length-map}
use Rattle.std.proofs.lemmas.List.FromFn.{get_or-map-range_with_len, length-map-range_with_len}
use Rattle.row_model.specs.declared.rows.Value.{Value}
use Rattle.row_model.specs.declared.rows.Value.TheVariants as values
use Rattle.row_model.specs.declared.rows.Cell.{Cell}
use Rattle.row_model.specs.declared.rows.Row.{Row}
use Rattle.leaf_model.specs.Content.{rows_from}
use Rattle.column_bytes.specs.Cells.{Coded}
use Rattle.row_blocks.specs.declared.column.BlockColumn.{BlockColumn}
use Rattle.row_blocks.specs.Blocks.{Block, IsBlock, IsTimeCell, cell_at_place, row_at, rows_in, time_in_cell, times_of, value_in}
use Rattle.time_range.specs.Ranges.{IsRange}
use Rattle.row_blocks.specs.Columns.{IsSeen}
use Rattle.row_blocks.specs.Held.{live_rows}
use Rattle.row_blocks.specs.Live.{AreTimesOf, has_live, time_at}
use Rattle.row_blocks.proofs.Means.{one_count}
use Rattle.row_blocks.proofs.Standing.{seen_at}
use Rattle.row_blocks.proofs.Taking.{no_row}

-- ---- whether some row is live

or_right : (a b : Bool) → b ≡ true → (a || b) ≡ true
or_right true b e = refl
or_right false b e = e

abbrev any_live : ℤ → List Row → Bool
any_live h rows = list_any (λ (row : Row). int_le h row.time) rows

any_at : (h : ℤ) (rows : List Row) (i : ℕ) → i < length (times_of rows) → int_le h (slice_index_or (times_of rows) i (pos 0)) ≡ true → any_live h rows ≡ true
any_at h [] i within e = absurd (omega (arith, within))
any_at h (row ∷ rows) zero within e = ap (λ (b : Bool). b || any_live h rows) e
any_at h (row ∷ rows) (suc i) within e = or_right (int_le h row.time) (any_live h rows) (any_at h rows i (omega (arith, within)) e)

none_at : (h to : ℤ) (rows : List Row) → ((i : ℕ) → i < length (times_of rows) → slice_index_or (times_of rows) i (pos 0) ≤ℤ to) → int_le h to ≡ false → any_live h rows ≡ false
none_at h to [] within e = refl
none_at h to (row ∷ rows) within e =
    let here = within 0 (omega arith) in
    let no : int_le h row.time ≡ false = false_from_ne_true (int_le h row.time) (λ yes. omega (arith, ints, e, here, yes)) in
    ap (λ (b : Bool). b || any_live h rows) no ∙ none_at h to rows (λ i inside. within (suc i) (omega (arith, inside))) e

-- the greatest time tells it
pub has_live_is : (b : Block) (h from to : ℤ) → IsRange (times_of (rows_in b)) from to → int_le h to ≡ has_live h b
unfolding has_live
has_live_is b h from to range = by (int_le h to) refl
  where
    by : (x : Bool) → int_le h to ≡ x → x ≡ any_live h (rows_in b)
    by true e = sym (any_at h (rows_in b) range.last.0 range.last.1 (ap (int_le h) range.last.2 ∙ e))
    by false e = sym (none_at h to (rows_in b) (λ i within. (range.within i within).1) e)

-- ---- all rows are live

abbrev IsLate : ℤ → Row → Type 0
IsLate h row = int_le h row.time ≡ true

all_late : (h from : ℤ) (rows : List Row) → ((i : ℕ) → i < length (times_of rows) → from ≤ℤ slice_index_or (times_of rows) i (pos 0)) → int_le h from ≡ true → AllByRecursion (IsLate h) rows
all_late h from [] within e = tt
all_late h from (row ∷ rows) within e =
    let here = within 0 (omega arith) in (
      true_from_ne_false (int_le h row.time) (λ no. omega (arith, ints, e, here, no)),
      all_late h from rows (λ i inside. within (suc i) (omega (arith, inside))) e,
    )

late_drop : (h : ℤ) (k : ℕ) (rows : List Row) → AllByRecursion (IsLate h) rows → AllByRecursion (IsLate h) (drop k rows)
late_drop h zero rows all = all
late_drop h (suc k) [] all = tt
late_drop h (suc k) (row ∷ rows) all = late_drop h k rows all.1

late_stay : (h : ℤ) (rows : List Row) → AllByRecursion (IsLate h) rows → rows_from h rows ≡ rows
late_stay h [] all = refl
late_stay h (row ∷ rows) all = ap (λ (b : Bool). cond b (row ∷ rows_from h rows) (rows_from h rows)) all.0 ∙ ap (λ (l : List Row). row ∷ l) (late_stay h rows all.1)

pub counted : (b : Block) → length (rows_in b) ≡ b.rows
counted b = length-map-range_with_len (row_at b.columns) 0 b.rows

pub counted_times : (b : Block) → length (times_of (rows_in b)) ≡ b.rows
counted_times b = length-map (rows_in b) (λ (row : Row). row.time) ∙ counted b

live_all : (b : Block) (h from to : ℤ) (skip : ℕ) → IsRange (times_of (rows_in b)) from to → int_le h from ≡ true → live_rows skip h b ≡ drop skip (rows_in b)
live_all b h from to skip range late =
    late_stay h (drop skip (rows_in b)) (late_drop h skip (rows_in b) (all_late h from (rows_in b) (λ i within. (range.within i within).0) late))

pub all_counted : (b : Block) (h from to : ℤ) (skip : ℕ) → IsRange (times_of (rows_in b)) from to → int_le h from ≡ true → b.rows - skip ≡ length (live_rows skip h b)
all_counted b h from to skip range late =
    ap (λ (n : ℕ). n - skip) (sym (counted b)) ∙ sym (length-drop skip (rows_in b)) ∙ ap (λ (l : List Row). length l) (sym (live_all b h from to skip range late))

pub all_behind : (b : Block) (h from to : ℤ) (skip n : ℕ) → IsRange (times_of (rows_in b)) from to → int_le h from ≡ true → live_rows (skip + n) h b ≡ drop n (live_rows skip h b)
all_behind b h from to skip n range late =
    live_all b h from to (skip + n) range late ∙ sym (drop-drop n skip (rows_in b)) ∙ ap (drop n) (sym (live_all b h from to skip range late))

-- ---- one place more

time_is : (b : Block) (i : ℕ) → i < b.rows → time_at b i ≡ (slice_index_or (rows_in b) i no_row).time
time_is b i within = get_or-map (λ (row : Row). row.time) (rows_in b) i no_row (pos 0) (omega (arith, counted b, within))

abbrev pub one_before : Bool → Row → List Row → List Row
one_before x row rest = cond x (row ∷ rest) rest

pub live_next : (b : Block) (h : ℤ) (i : ℕ) → i < b.rows → live_rows i h b ≡ one_before (int_le h (time_at b i)) (slice_index_or (rows_in b) i no_row) (live_rows (i + 1) h b)
live_next b h i within =
    let row = slice_index_or (rows_in b) i no_row in
    ap (rows_from h) (drop_more (rows_in b) i no_row (omega (arith, counted b, within)))
    ∙ ap (λ (t : ℤ). one_before (int_le h t) row (live_rows (i + 1) h b)) (sym (time_is b i within))

one_counted : (x : Bool) (row : Row) (rest all : List Row) → all ≡ one_before x row rest → length all ≡ from_bool x + length rest
one_counted true row rest all e = let count = ap (λ (l : List Row). length l) e in omega (arith, count)
one_counted false row rest all e = let count = ap (λ (l : List Row). length l) e in omega (arith, count)

pub count_next : (b : Block) (h : ℤ) (i live one total : ℕ) (there : Bool) → i < b.rows → live + length (live_rows i h b) ≡ total → one ≡ from_bool there → there ≡ int_le h (time_at b i)
    → live + one + length (live_rows (i + 1) h b) ≡ total
count_next b h i live one total there within so_far is e =
    let next = one_counted (int_le h (time_at b i)) (slice_index_or (rows_in b) i no_row) (live_rows (i + 1) h b) (live_rows i h b) (live_next b h i within) in
    let same : one ≡ from_bool (int_le h (time_at b i)) = is ∙ ap from_bool e in
    omega (arith, so_far, next, same)

pub none_left : (b : Block) (h : ℤ) (i : ℕ) → b.rows ≤ i → live_rows i h b ≡ []
none_left b h i past = ap (rows_from h) (drop_all i (rows_in b) (omega (arith, counted b, past)))

pub count_end : (b : Block) (h : ℤ) (i live total : ℕ) → b.rows ≤ i → live + length (live_rows i h b) ≡ total → live ≡ total
count_end b h i live total past so_far = let none = ap (λ (l : List Row). length l) (none_left b h i past) in omega (arith, so_far, none)

pub none_past : (b : Block) (h : ℤ) (i left : ℕ) → b.rows ≤ i → left < length (live_rows i h b) → ⊥
none_past b h i left past some = let none = ap (λ (l : List Row). length l) (none_left b h i past) in omega (arith, some, none)

abbrev IsNext : ℕ → List Row → ℕ → List Row → Type 0
IsNext left all now rest = (now < length rest) × (drop now rest ≡ drop left all)

one_taken : (x : Bool) (row : Row) (rest all : List Row) (left now : ℕ) → all ≡ one_before x row rest → 0 < left → left < length all → now ≡ left - from_bool x → IsNext left all now rest
one_taken x row rest all zero now e some few is = absurd (omega (arith, some))
one_taken true row rest all (suc k) now e some few is =
    let count = ap (λ (l : List Row). length l) e in
    let same : now ≡ k = omega (arith, is) in
    (omega (arith, count, few, same), ap (λ (m : ℕ). drop m rest) same ∙ sym (ap (drop (suc k)) e))
one_taken false row rest all (suc k) now e some few is =
    let count = ap (λ (l : List Row). length l) e in
    let same : now ≡ suc k = omega (arith, is) in
    (omega (arith, count, few, same), ap (λ (m : ℕ). drop m rest) same ∙ sym (ap (drop (suc k)) e))

pub place_next : (b : Block) (h : ℤ) (i left one : ℕ) (there : Bool) → i < b.rows → 0 < left → left < length (live_rows i h b) → one ≡ from_bool there → there ≡ int_le h (time_at b i)
    → IsNext left (live_rows i h b) (left - one) (live_rows (i + 1) h b)
place_next b h i left one there within some few is e =
    one_taken (int_le h (time_at b i)) (slice_index_or (rows_in b) i no_row) (live_rows (i + 1) h b) (live_rows i h b) left (left - one) (live_next b h i within) some few
    (ap (λ (k : ℕ). left - k) (is ∙ ap from_bool e))

-- ---- times that were read

timed : (v : Option Value) → IsTimeCell v → v ≡ Some (values.Int (time_in_cell v))
timed None is = absurd is
timed (Some (values.Int n)) is = refl
timed (Some (values.Text text)) is = absurd is
timed (Some (values.Set members)) is = absurd is

row_is_at : (b : Block) (first : BlockColumn) (others : List BlockColumn) (i : ℕ) → b.columns ≡ first ∷ others → i < b.rows → slice_index_or (rows_in b) i no_row ≡ row_at (first ∷ others) i
row_is_at b first others i columns within =
    get_or-map-range_with_len (row_at b.columns) 0 b.rows i i no_row within (omega arith) ∙ ap (λ (cs : List BlockColumn). row_at cs i) columns

pub times_read : (b : Block) (is : IsBlock b) (column : BlockColumn) (view : Coded) → column ≡ is.times → IsSeen view column.bytes → AreTimesOf view b
times_read b is column view same seen_column =
    let bytes = is.times.bytes in
    let seen : IsSeen view bytes = subst (λ (c : BlockColumn). IsSeen view c.bytes) same seen_column in
    let count : length view.codes ≡ b.rows = one_count bytes (length view.codes) b.rows seen.mean is.timed.cells in
    record {
      count = count;
      each = λ i within.
          seen_at view bytes seen i (omega (arith, count, within))
          ∙ timed (value_in bytes i) (is.timed.each i within)
          ∙ ap (λ (t : ℤ). Some (values.Int t)) (sym (time_is b i within ∙ ap (λ (row : Row). row.time) (row_is_at b is.times is.others i is.columns_are within)));
    }

-- ---- rows

pub any_default : {X : Type 0} (xs : List X) (k : ℕ) (c d : X) → k < length xs → get_or xs k c ≡ get_or xs k d
any_default [] k c d within = absurd (omega (arith, within))
any_default (x ∷ xs) zero c d within = refl
any_default (x ∷ xs) (suc k) c d within = any_default xs k c d (omega (arith, within))

pub no_cell : (name : List ℕ) (v : Option Value) (cells : List Cell) → v ≡ None → cells ≡ cells ++ cell_at_place name v
no_cell name v cells e = sym (append-nil cells) ∙ ap (λ (w : Option Value). cells ++ cell_at_place name w) (sym e)

pub one_cell : (name own : List ℕ) (v : Option Value) (value : Value) (cells : List Cell) → v ≡ Some value → own ≡ name
    → cells ++ record { name = own; value = value } ∷ [] ≡ cells ++ cell_at_place name v
one_cell name own v value cells e same =
    ap (λ (n : List ℕ). cells ++ record { name = n; value = value } ∷ []) same ∙ ap (λ (w : Option Value). cells ++ cell_at_place name w) (sym e)
