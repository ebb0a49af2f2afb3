-- The seat of one leaf's column, as it is read of its row and changed there.
use Rattle.std.proofs.Common.{◌≡◌, ◌≢◌, ◌⊎◌, inl, inr, ◌==◌, Bool, true, false, ℕ, ◌<◌, List, [], length, map, Option, Some, None, refl, sym, ap, subst, ◌∙◌, arith, Vec, Global}
use Rattle.std.specs.Prelude.{slice_get, slice_set, slice_index_or, vec_len}
use Rattle.std.specs.Vec.{with_item}
use Rattle.std.proofs.lemmas.Bool.{cases_eq, eq-eqb, ne_eqb}
use Rattle.std.proofs.lemmas.List.{nil_from_length}
use Rattle.std.proofs.lemmas.Option.{slice_get_within}
use Rattle.leaf_table.specs.Turns.{Shared}
use Rattle.leaf_table.specs.Calls.{SeatView, name_of}
use Rattle.leaf_table.specs.Lists.{lists_in, row}
use Rattle.leaf_steward.specs.Seated.{Seated}
use Rattle.player.specs.Crew.{column}
use Rattle.player.specs.Rows.{AreCalled, HasSeat, IsColumn, MayMeet, OnlyColumn, with_place}
use Rattle.leaf_deeds.specs.Held.{KeepsSeats}
use Rattle.player.specs.Stage.{IsMember}
use Rattle.player.proofs.Calling.{stands_at}
use Rattle.player.proofs.Columns.{column_get, column_with, element_at, lists_count, lists_with, only_rows, only_with, row_is}

-- the row of a table that was read, in which callers have a seat at the leaf
pub record RowRead (leaf : ℕ) (tables : List Shared) (rows : List (Vec SeatView Global)) (table : ℕ) (v : Vec SeatView Global) : Type 0 where
  pub is : IsColumn leaf tables (lists_in rows)
  pub within : table < length tables
  pub has : HasSeat leaf table (lists_in rows)
  pub read : v ≡ slice_index_or rows table v

module _ {leaf : ℕ} {tables : List Shared} {rows : List (Vec SeatView Global)} {table : ℕ} {v : Vec SeatView Global} (r : RowRead leaf tables rows table v) where
  low : table < length rows
  low = omega (arith, lists_count rows, r.is.sizes.count, r.within)

  row_there : slice_get v.items leaf ≡ Some r.has.0
  row_there = ap (λ (xs : List SeatView). slice_get xs leaf) (row_is rows table v low r.read) ∙ r.has.1

  -- the row has a seat at the leaf
  pub row_wide : leaf < vec_len v
  row_wide = omega (arith, v.ok.0, slice_get_within v.items leaf r.has.0 row_there)

  -- and that is the column's
  pub there : (c : SeatView) → c ≡ slice_index_or v.items leaf c → slice_get (column leaf (lists_in rows)) table ≡ Some (Some c)
  there c seat =
      column_get leaf (lists_in rows) table (omega (arith, low, lists_count rows))
      ∙ ap (λ (o : Option SeatView). Some o)
      (subst (λ (xs : List SeatView). slice_get xs leaf ≡ Some c) (row_is rows table v low r.read) (stands_at v.items leaf c (slice_get_within v.items leaf r.has.0 row_there) seat))

  -- the seat has become another
  module _ (w : SeatView) where
    abbrev rows_then : List (Vec SeatView Global)
    rows_then = slice_set rows table (with_item v leaf w)

    rows_are : lists_in rows_then ≡ with_place (lists_in rows) table leaf w
    rows_are = lists_with rows table v low r.read (with_item v leaf w) leaf w refl

    pub column_then : column leaf (lists_in rows_then) ≡ slice_set (column leaf (lists_in rows)) table (Some w)
    column_then = ap (column leaf) rows_are ∙ column_with (lists_in rows) leaf table r.has w

    pub only_then : OnlyColumn leaf (lists_in rows) (lists_in rows_then)
    only_then = subst (OnlyColumn leaf (lists_in rows)) (sym rows_are) (only_with (lists_in rows) leaf table r.has w)

    pub is_then : AreCalled (record { tables = tables; seats = slice_set (column leaf (lists_in rows)) table (Some w) }) → IsColumn leaf tables (lists_in rows_then)
    is_then called = record {
      size = r.is.size;
      sizes = only_rows leaf (length tables) r.is.size (lists_in rows) (lists_in rows_then) only_then r.is.sizes;
      within = r.is.within;
      few = r.is.few;
      called = subst (λ (seats : List (Option SeatView)). AreCalled (record { tables = tables; seats = seats })) (sym column_then) called;
    }

pub row_met : (leaf : ℕ) (x : Seated) (rows : List (Vec SeatView Global)) (table : ℕ) (v : Vec SeatView Global) → MayMeet leaf x (lists_in rows) → table < length rows → HasSeat leaf table (lists_in rows) → v ≡ slice_index_or rows table v
    → RowRead leaf x.tables rows table v
row_met leaf x rows table v may below has read = record { is = may.column; within = omega (arith, may.column.sizes.count, lists_count rows, below); has = has; read = read }

-- ---- rows with a seat, and without

positive_of : (n : ℕ) → (n == 0) ≡ false → 0 < n
positive_of n is = by (cases_eq n 0)
  where
    by : (n ≡ 0) ⊎ (n ≢ 0) → 0 < n
    by (inl same) = let clash : true ≡ false = sym (eq-eqb n 0 same) ∙ is in absurd (cc)
    by (inr apart) = omega (arith, apart)

zero_of : (n : ℕ) → (n == 0) ≡ true → n ≡ 0
zero_of n is = by (cases_eq n 0)
  where
    by : (n ≡ 0) ⊎ (n ≢ 0) → n ≡ 0
    by (inl same) = same
    by (inr apart) = let clash : false ≡ true = sym (ne_eqb n 0 apart) ∙ is in absurd (cc)

module _ (leaf : ℕ) (tables : List Shared) (rows : List (Vec SeatView Global)) (table : ℕ) (v : Vec SeatView Global)
    (is : IsColumn leaf tables (lists_in rows)) (within : table < length tables) (read : v ≡ slice_index_or rows table v) (b : Bool) (empty : b ≡ (vec_len v == 0)) where
  abbrev the_row : List SeatView
  the_row = row (lists_in rows) table

  row_are : v.items ≡ the_row
  row_are = row_is rows table v (omega (arith, lists_count rows, is.sizes.count, within)) read

  row_count : length the_row ≡ vec_len v
  row_count = omega (arith, v.ok.0, ap (λ (xs : List SeatView). length xs) row_are)

  pub seat_there : b ≡ false → HasSeat leaf table (lists_in rows)
  seat_there some = by (is.sizes.each table within)
    where
      by : (the_row ≡ []) ⊎ (length the_row ≡ is.size) → HasSeat leaf table (lists_in rows)
      by (inl none) = absurd (omega (arith, positive_of (vec_len v) (sym empty ∙ some), row_count, ap (λ (xs : List SeatView). length xs) none))
      by (inr all) = element_at the_row leaf (omega (arith, all, is.within))

  pub seat_none : b ≡ true → slice_get (column leaf (lists_in rows)) table ≡ Some None
  seat_none none =
      column_get leaf (lists_in rows) table (omega (arith, is.sizes.count, within))
      ∙ ap (λ (xs : List SeatView). Some (slice_get xs leaf)) (nil_from_length the_row (omega (arith, zero_of (vec_len v) (sym empty ∙ none), row_count)))

-- ---- a leaf whose seats stay at their tables

pub may_keep : (leaf : ℕ) (x y : Seated) (rows : List (List SeatView)) → KeepsSeats x y → MayMeet leaf x rows → MayMeet leaf y rows
may_keep leaf x y rows keeps may = record {
  column = subst (λ (ts : List Shared). IsColumn leaf ts rows) (sym keeps.tables) may.column;
  seats = keeps.seats ∙ may.seats ∙ ap (λ (ts : List Shared). length ts) (sym keeps.tables);
}

pub member_keeps : (names : List (List ℕ)) (leaf : ℕ) (x y : Seated) (rows rows' : List (List SeatView)) → IsMember names leaf x rows → KeepsSeats x y → MayMeet leaf y rows' → IsMember names leaf y rows'
member_keeps names leaf x y rows rows' is keeps may = record {
  named = is.named;
  same = keeps.names ∙ is.same;
  names_are = ap (λ (ts : List Shared). map name_of ts) keeps.tables ∙ is.names_are;
  seats = keeps.seats ∙ is.seats;
  may = may;
}
