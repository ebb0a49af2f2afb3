-- Columns of rows, of which one row has become another.
use Rattle.std.proofs.Common.{◌≡◌, ◌⊎◌, inl, inr, ℕ, zero, suc, ◌<◌, ◌≤◌, List, [], ◌∷◌, ◌++◌, length, Option, Some, refl, sym, ap, ◌∙◌, arith, length-set, Vec, Global}
use Rattle.std.specs.Prelude.{slice_get, slice_set, slice_index_or}
use Rattle.std.proofs.lemmas.List.{map-set, get_or-map, length-map, nil_from_length}
use Rattle.leaf_table.specs.Calls.{SeatView}
use Rattle.leaf_table.specs.Lists.{lists_in, place, row}
use Rattle.leaf_steward.proofs.Seating.{set_get, set_other}
use Rattle.leaf_moves.specs.Holds.{caller_in}
use Rattle.player.specs.Crew.{column}
use Rattle.player.specs.Rows.{AreRows, HasSeat, OnlyColumn, with_place}

pub element_at : {A : Type 0} (xs : List A) (i : ℕ) → i < length xs → (x : A) × (slice_get xs i ≡ Some x)
element_at [] i within = absurd (omega (arith, within))
element_at (x ∷ xs) zero within = (x, refl)
element_at (x ∷ xs) (suc i) within = element_at xs i (omega (arith, within))

pub below_or_not : (a b : ℕ) → (a < b) ⊎ (b ≤ a)
below_or_not a b = grind arith

-- what stands before others, and behind others
pub get_front : {A : Type 0} (xs ys : List A) (i : ℕ) → i < length xs → slice_get (xs ++ ys) i ≡ slice_get xs i
get_front [] ys i below = absurd (omega (arith, below))
get_front (x ∷ xs) ys zero below = refl
get_front (x ∷ xs) ys (suc i) below = get_front xs ys i (omega (arith, below))

pub get_behind : {A : Type 0} (done : List A) (x : A) (others : List A) (i : ℕ) → i ≡ length done → slice_get (done ++ x ∷ others) i ≡ Some x
get_behind [] x others zero is = refl
get_behind [] x others (suc i) is = absurd (omega (arith, is))
get_behind (y ∷ done) x others zero is = absurd (omega (arith, is))
get_behind (y ∷ done) x others (suc i) is = get_behind done x others i (omega (arith, is))

pub same_some : {A : Type 0} (x y : A) → Some x ≡ Some y → x ≡ y
same_some x y e = cc

module _ {A : Type 0} (leaf : ℕ) where
  pub column_count : (rows : List (List A)) → length (column leaf rows) ≡ length rows
  column_count rows = length-map rows (λ (r : List A). slice_get r leaf)

  pub column_get : (rows : List (List A)) (table : ℕ) → table < length rows → slice_get (column leaf rows) table ≡ Some (place rows table leaf)
  column_get [] table below = absurd (omega (arith, below))
  column_get (r ∷ rows) zero below = refl
  column_get (r ∷ rows) (suc table) below = column_get rows table (omega (arith, below))

  -- what stands in a column stands in its row
  pub column_back : (rows : List (List A)) (table : ℕ) (o : Option A) → slice_get (column leaf rows) table ≡ Some o → place rows table leaf ≡ o
  column_back [] table o at = absurd cc
  column_back (r ∷ rows) zero o at = same_some (slice_get r leaf) o at
  column_back (r ∷ rows) (suc table) o at = column_back rows table o at

  -- one row has become another
  pub column_set : (rows : List (List A)) (table : ℕ) (r : List A) (o : Option A) → slice_get r leaf ≡ o → column leaf (slice_set rows table r) ≡ slice_set (column leaf rows) table o
  column_set rows table r o at = map-set (λ (q : List A). slice_get q leaf) rows table r ∙ ap (λ (p : Option A). slice_set (column leaf rows) table p) at

  -- the others' elements of that row are as they were
  pub column_other : (rows : List (List A)) (table : ℕ) (r : List A) → slice_get r leaf ≡ slice_get (row rows table) leaf → column leaf (slice_set rows table r) ≡ column leaf rows
  column_other [] table r same = refl
  column_other (q ∷ rows) zero r same = ap (λ (o : Option A). o ∷ column leaf rows) same
  column_other (q ∷ rows) (suc table) r same = ap (λ (os : List (Option A)). slice_get q leaf ∷ os) (column_other rows table r same)

-- the seat at a table, as a column tells it
pub caller_at : (leaf : ℕ) (rows : List (List SeatView)) (table : ℕ) → caller_in (column leaf rows) table ≡ place rows table leaf
caller_at leaf [] table = refl
caller_at leaf (r ∷ rows) zero = refl
caller_at leaf (r ∷ rows) (suc table) = caller_at leaf rows table

pub row_beyond : {A : Type 0} (rows : List (List A)) (i : ℕ) → length rows ≤ i → row rows i ≡ []
row_beyond [] i few = refl
row_beyond (r ∷ rows) zero few = absurd (omega (arith, few))
row_beyond (r ∷ rows) (suc i) few = row_beyond rows i (omega (arith, few))

pub within_rows : {A : Type 0} (rows : List (List A)) (i j : ℕ) (x : A) → slice_get (row rows i) j ≡ Some x → i < length rows
within_rows [] i j x at = absurd cc
within_rows (r ∷ rows) zero j x at = omega arith
within_rows (r ∷ rows) (suc i) j x at = let below = within_rows rows i j x at in omega (arith, below)

-- a list as long as one that is empty or has this length
pub same_size : {A B : Type 0} (size : ℕ) (xs : List A) (ys : List B) → length ys ≡ length xs → (xs ≡ []) ⊎ (length xs ≡ size) → (ys ≡ []) ⊎ (length ys ≡ size)
same_size {A} size xs ys same (inl none) = inl (nil_from_length ys (same ∙ ap (λ (zs : List A). length zs) none))
same_size size xs ys same (inr all) = inr (same ∙ all)

-- the rows are as long
pub lengths_set : {A : Type 0} (rows : List (List A)) (table : ℕ) (r : List A) → length r ≡ length (row rows table) → (t : ℕ) → length (row (slice_set rows table r) t) ≡ length (row rows t)
lengths_set [] table r same t = refl
lengths_set (q ∷ rows) zero r same zero = same
lengths_set (q ∷ rows) zero r same (suc t) = refl
lengths_set (q ∷ rows) (suc table) r same zero = refl
lengths_set (q ∷ rows) (suc table) r same (suc t) = lengths_set rows table r same t

pub rows_kept : {A : Type 0} (n size : ℕ) (rows rows' : List (List A)) → length rows' ≡ length rows → ((t : ℕ) → length (row rows' t) ≡ length (row rows t)) → AreRows n size rows → AreRows n size rows'
rows_kept n size rows rows' count lengths are = record {
  count = count ∙ are.count;
  each = λ t below. same_size size (row rows t) (row rows' t) (lengths t) (are.each t below);
}

-- no row is longer
pub row_size : {A : Type 0} (n size : ℕ) (rows : List (List A)) (table : ℕ) → AreRows n size rows → length (row rows table) ≤ size
row_size {A} n size rows table are = by (below_or_not table n)
  where
    within : (row rows table ≡ []) ⊎ (length (row rows table) ≡ size) → length (row rows table) ≤ size
    within (inl none) = let zero_is = ap (λ (xs : List A). length xs) none in omega (arith, zero_is)
    within (inr all) = omega (arith, all)

    by : (table < n) ⊎ (n ≤ table) → length (row rows table) ≤ size
    by (inl below) = within (are.each table below)
    by (inr above) = within (inl (row_beyond rows table (omega (arith, above, are.count))))

pub only_rows : (leaf n size : ℕ) (rows rows' : List (List SeatView)) → OnlyColumn leaf rows rows' → AreRows n size rows → AreRows n size rows'
only_rows leaf n size rows rows' only are = rows_kept n size rows rows' only.count only.lengths are

-- ---- one seat

module _ (rows : List (List SeatView)) (leaf table : ℕ) (has : HasSeat leaf table rows) (w : SeatView) where
  pub column_with : column leaf (with_place rows table leaf w) ≡ slice_set (column leaf rows) table (Some w)
  column_with = column_set leaf rows table (slice_set (row rows table) leaf w) (Some w) (set_get (row rows table) leaf has.0 w has.1)

  pub only_with : OnlyColumn leaf rows (with_place rows table leaf w)
  only_with = record {
    count = length-set rows table (slice_set (row rows table) leaf w);
    lengths = lengths_set rows table (slice_set (row rows table) leaf w) (length-set (row rows table) leaf w);
    others = λ other apart. column_other other rows table (slice_set (row rows table) leaf w) (set_other (row rows table) leaf other w apart);
  }

-- ---- changes one after another

pub only_none : (leaf : ℕ) (rows : List (List SeatView)) → OnlyColumn leaf rows rows
only_none leaf rows = record { count = refl; lengths = λ table. refl; others = λ other apart. refl }

pub only_more : (leaf : ℕ) (xs ys zs : List (List SeatView)) → OnlyColumn leaf xs ys → OnlyColumn leaf ys zs → OnlyColumn leaf xs zs
only_more leaf xs ys zs first second = record {
  count = second.count ∙ first.count;
  lengths = λ table. second.lengths table ∙ first.lengths table;
  others = λ other apart. second.others other apart ∙ first.others other apart;
}

-- ---- rows as the program holds them

module _ {A : Type 0} (rows : List (Vec A Global)) (at : ℕ) (v : Vec A Global) (low : at < length rows) (is : v ≡ slice_index_or rows at v) where
  pub row_is : v.items ≡ row (lists_in rows) at
  row_is = ap (λ (u : Vec A Global). u.items) is ∙ sym (get_or-map (λ (u : Vec A Global). u.items) rows at v [] low)

  pub lists_set : (w : Vec A Global) (xs : List A) → w.items ≡ xs → lists_in (slice_set rows at w) ≡ slice_set (lists_in rows) at xs
  lists_set w xs are = map-set (λ (u : Vec A Global). u.items) rows at w ∙ ap (λ (ys : List A). slice_set (lists_in rows) at ys) are

  pub lists_with : (w : Vec A Global) (leaf : ℕ) (x : A) → w.items ≡ slice_set v.items leaf x → lists_in (slice_set rows at w) ≡ with_place (lists_in rows) at leaf x
  lists_with w leaf x are = lists_set w (slice_set (row (lists_in rows) at) leaf x) (are ∙ ap (λ (ys : List A). slice_set ys leaf x) row_is)

pub lists_count : {A : Type 0} (rows : List (Vec A Global)) → length (lists_in rows) ≡ length rows
lists_count {A} rows = length-map rows (λ (u : Vec A Global). u.items)
