-- Rows that were refused as late are those before a time in its place among the sorted ones.
use Rattle.std.proofs.Common.{◌≡◌, ℕ, zero, suc, ◌+◌, ◌≤◌, Bool, true, false, List, [], ◌∷◌, length, map, ℤ, get_or, ◌<◌, refl, sym, ap, subst, ◌∙◌, arith, true≢false}
use Rattle.std.specs.Prelude.{if◌then◌else◌, int_le, IsPermutation, IsSorted, ⊤}
use Rattle.std.specs.Ordering.{int_cmp, is_lt}
use Rattle.std.specs.Cmp.{int_cmp_is}
use Rattle.std.specs.declared.cmp.Ordering.TheVariants.{Less}
use Rattle.std.specs.List.{AllByRecursion, sum_by}
use Rattle.std.proofs.lemmas.Int.{ints}
use Rattle.std.proofs.lemmas.Bool.{true_from_ne_false, false_from_ne_true}
use Rattle.std.proofs.lemmas.List.Elements.{All-from_recursion, recursion_from_All}
use Rattle.std.proofs.lemmas.Cmp.{int_cmp_total}
use Rattle.std.proofs.lemmas.List.Sorted.{sum_by-IsPermutation, All-permutation, IsPermutation-sym, length_permutation, ranks_by, sorted_far}
use Rattle.std.proofs.lemmas.List.Sums.{sum_by-cons}
use Rattle.row_model.specs.declared.rows.Row.{Row}
use Rattle.leaf_model.specs.Content.{rows_from}

abbrev Ascends : List ℤ → Type 0
Ascends [] = ⊤
Ascends (x ∷ xs) = AllByRecursion (λ (y : ℤ). int_le x y ≡ true) xs × Ascends xs

pub chain : (a b c : ℤ) → int_le a b ≡ true → int_le b c ≡ true → int_le a c ≡ true
chain a b c h k = true_from_ne_false (int_le a c) (λ no. omega (arith, ints, h, k, no))

itself : (a : ℤ) → int_le a a ≡ true
itself a = true_from_ne_false (int_le a a) (λ no. omega (arith, ints, no))

abbrev one_from : ℤ → ℤ → ℕ
one_from h x = if int_le h x then 1 else 0

abbrev from : ℤ → List ℤ → ℕ
from h [] = 0
from h (x ∷ xs) = one_from h x + from h xs

one_there : (h x : ℤ) → int_le h x ≡ true → one_from h x ≡ 1
one_there h x e = rw e refl

one_not : (h x : ℤ) → int_le h x ≡ false → one_from h x ≡ 0
one_not h x e = rw e refl

at_most_one : (h x : ℤ) (b : Bool) → int_le h x ≡ b → one_from h x ≤ 1
at_most_one h x true e = let n = one_there h x e in omega (arith, n)
at_most_one h x false e = let n = one_not h x e in omega (arith, n)

at_most : (h : ℤ) (xs : List ℤ) → from h xs ≤ length xs
at_most h [] = omega arith
at_most h (x ∷ xs) = let here = at_most_one h x (int_le h x) refl in let more = at_most h xs in omega (arith, here, more)

all_from : (h x : ℤ) (xs : List ℤ) → int_le h x ≡ true → AllByRecursion (λ (y : ℤ). int_le x y ≡ true) xs → from h xs ≡ length xs
all_from h x [] e all = refl
all_from h x (y ∷ ys) e all =
    let here = one_there h y (chain h x y e all.0) in
    let more = all_from h x ys e all.1 in
    omega (arith, here, more)

-- ---- in times that ascend

record Cut (h t : ℤ) (xs : List ℤ) : Type 0 where
  pub above : int_le h t ≡ true
  pub each : AllByRecursion (λ (x : ℤ). int_le h x ≡ true → int_le t x ≡ true) xs

every : (h t : ℤ) (xs : List ℤ) → AllByRecursion (λ (y : ℤ). int_le t y ≡ true) xs → AllByRecursion (λ (y : ℤ). int_le h y ≡ true → int_le t y ≡ true) xs
every h t [] all = tt
every h t (y ∷ ys) all = (λ _. all.0, every h t ys all.1)

cut_at : (h t x : ℤ) (xs : List ℤ) (late : ℕ) (b : Bool) → int_le h x ≡ b → AllByRecursion (λ (y : ℤ). int_le x y ≡ true) xs
    → ((l : ℕ) → l < length xs → l + from h xs ≡ length xs → t ≡ get_or xs l t → Cut h t xs)
    → late < suc (length xs) → late + from h (x ∷ xs) ≡ suc (length xs) → t ≡ get_or (x ∷ xs) late t → Cut h t (x ∷ xs)
cut_at h t x xs zero true e up ih inside count here =
    subst (λ (z : ℤ). Cut h z (x ∷ xs)) (sym here) (record { above = e; each = (λ _. itself x, every h x xs up) })
cut_at h t x xs (suc l) true e up ih inside count here =
    let one = one_there h x e in
    let more = all_from h x xs e up in
    absurd (omega (arith, one, more, count))
cut_at h t x xs zero false e up ih inside count here =
    let one = one_not h x e in
    let more = at_most h xs in
    absurd (omega (arith, one, more, count))
cut_at h t x xs (suc l) false e up ih inside count here =
    let one = one_not h x e in
    let rest = ih l (omega (arith, inside)) (omega (arith, one, count)) here in
    record { above = rest.above; each = (λ yes. absurd (true≢false (sym yes ∙ e)), rest.each) }

cut : (h t : ℤ) (xs : List ℤ) (late : ℕ) → Ascends xs → late < length xs → late + from h xs ≡ length xs → t ≡ get_or xs late t → Cut h t xs
cut h t [] late up inside count here = absurd (omega (arith, inside))
cut h t (x ∷ xs) late up inside count here = cut_at h t x xs late (int_le h x) refl up.0 (λ l n c g. cut h t xs l up.1 n c g) inside count here

-- ---- times that were sorted ascend

not_below : (x y : ℤ) → is_lt (int_cmp y x) ≡ false → int_le x y ≡ true
not_below x y e = true_from_ne_false (int_le x y) (λ less.
    let below : Less ≡ int_cmp y x = int_cmp_is y x Less (omega (arith, ints, less)) in
    true≢false (ap is_lt below ∙ e))

abbrev Rises : List ℤ → Type 0
Rises xs = (i j : ℕ) (d : ℤ) → i ≤ j → j < length xs → is_lt (int_cmp (get_or xs j d) (get_or xs i d)) ≡ false

ascends : (xs : List ℤ) → Rises xs → Ascends xs
ascends [] rises = tt
ascends (x ∷ xs) rises = (
  recursion_from_All (λ (y : ℤ). int_le x y ≡ true) xs (λ k d inside. not_below x (get_or xs k d) (rises 0 (suc k) d (omega arith) (omega (arith, inside)))),
  ascends xs (λ i j d le inside. rises (suc i) (suc j) d (omega (arith, le)) (omega (arith, inside))),
)

sorted_ascend : (xs : List ℤ) → IsSorted int_cmp xs → Ascends xs
sorted_ascend xs up = ascends xs (sorted_far (λ (a b : ℤ). is_lt (int_cmp a b)) (ranks_by int_cmp_total (λ (z : ℤ). z)) xs up)

-- ---- in rows

abbrev times_of : List Row → List ℤ
times_of rows = map (λ (row : Row). row.time) rows

rows_at : (h t : ℤ) (row : Row) (rows : List Row) (b : Bool) → int_le h row.time ≡ b → int_le h t ≡ true → (int_le h row.time ≡ true → int_le t row.time ≡ true)
    → rows_from t rows ≡ rows_from h rows → rows_from t (row ∷ rows) ≡ rows_from h (row ∷ rows)
rows_at h t row rows true e up more same = let later = more e in rw (e, later) (ap (λ (rs : List Row). row ∷ rs) same)
rows_at h t row rows false e up more same =
    let not_later : int_le t row.time ≡ false = false_from_ne_true (int_le t row.time) (λ yes. true≢false (sym (chain h t row.time up yes) ∙ e)) in
    rw (e, not_later) same

rows_same : (h t : ℤ) (rows : List Row) → int_le h t ≡ true → AllByRecursion (λ (x : ℤ). int_le h x ≡ true → int_le t x ≡ true) (times_of rows) → rows_from t rows ≡ rows_from h rows
rows_same h t [] up all = refl
rows_same h t (row ∷ rows) up all = rows_at h t row rows (int_le h row.time) refl up all.0 (rows_same h t rows up all.1)

long_there : (h : ℤ) (row : Row) (rows : List Row) → int_le h row.time ≡ true → length (rows_from h (row ∷ rows)) ≡ suc (length (rows_from h rows))
long_there h row rows e = rw e refl

long_not : (h : ℤ) (row : Row) (rows : List Row) → int_le h row.time ≡ false → length (rows_from h (row ∷ rows)) ≡ length (rows_from h rows)
long_not h row rows e = rw e refl

kept_at : (h : ℤ) (row : Row) (rows : List Row) (b : Bool) → int_le h row.time ≡ b → length (rows_from h rows) ≡ from h (times_of rows) → length (rows_from h (row ∷ rows)) ≡ from h (times_of (row ∷ rows))
kept_at h row rows true e more = let here = one_there h row.time e in let long = long_there h row rows e in omega (arith, here, long, more)
kept_at h row rows false e more = let here = one_not h row.time e in let long = long_not h row rows e in omega (arith, here, long, more)

kept : (h : ℤ) (rows : List Row) → length (rows_from h rows) ≡ from h (times_of rows)
kept h [] = refl
kept h (row ∷ rows) = kept_at h row rows (int_le h row.time) refl (kept h rows)

summed : (h : ℤ) (xs : List ℤ) → sum_by (one_from h) xs ≡ from h xs
summed h [] = refl
summed h (x ∷ xs) = sum_by-cons (one_from h) x xs ∙ ap (λ (n : ℕ). one_from h x + n) (summed h xs)

long_rows : (rows : List Row) → length (times_of rows) ≡ length rows
long_rows [] = refl
long_rows (row ∷ rows) = ap (λ (n : ℕ). suc n) (long_rows rows)

stay_at : (h : ℤ) (row : Row) (rows : List Row) (b : Bool) → int_le h row.time ≡ b → length (rows_from h (row ∷ rows)) ≡ suc (length rows)
    → (length (rows_from h rows) ≡ length rows → rows_from h rows ≡ rows) → rows_from h (row ∷ rows) ≡ row ∷ rows
stay_at h row rows true e count more = rw e (ap (λ (rs : List Row). row ∷ rs) (more (let long = long_there h row rows e in omega (arith, long, count))))
stay_at h row rows false e count more =
    let long = long_not h row rows e in
    let left = kept h rows in
    let most = at_most h (times_of rows) in
    let by_rows = long_rows rows in
    absurd (omega (arith, long, left, most, by_rows, count))

-- where no row is below the horizon, all stay
pub all_stay : (h : ℤ) (rows : List Row) → length (rows_from h rows) ≡ length rows → rows_from h rows ≡ rows
all_stay h [] count = refl
all_stay h (row ∷ rows) count = stay_at h row rows (int_le h row.time) refl count (all_stay h rows)

-- so many rows are below the horizon: then just those are below the time in that place of the sorted times
pub late_cut : (rows : List Row) (times : List ℤ) (h t : ℤ) (late : ℕ) → IsPermutation (map (λ (row : Row). row.time) rows) times → IsSorted int_cmp times
    → late < length times → late + length (rows_from h rows) ≡ length rows → t ≡ get_or times late t → rows_from t rows ≡ rows_from h rows
late_cut rows times h t late same up inside count here =
    let all = times_of rows in
    let as_many : from h times ≡ from h all = sym (summed h times) ∙ (sum_by-IsPermutation (one_from h) all times same ∙ summed h all) in
    let as_long : length times ≡ length all = length_permutation all times same in
    let by_rows = long_rows rows in
    let left = kept h rows in
    let found = cut h t times late (sorted_ascend times up) inside (omega (arith, as_many, as_long, by_rows, left, count)) here in
    let P : ℤ → Type 0 = λ (x : ℤ). int_le h x ≡ true → int_le t x ≡ true in
    rows_same h t rows found.above
    (recursion_from_All P all (All-permutation P times all (IsPermutation-sym all times same) (All-from_recursion P times found.each)))
