-- What is lent to a lane: ids of rows of seats, and leaves.
use Rattle.std.proofs.Common.{◌≡◌, ◌≢◌, ◌⊎◌, inl, inr, Bool, true, false, ℕ, zero, suc, ◌<◌, ◌≤◌, List, [], ◌∷◌, ◌++◌, length, Option, Some, None, Vec, Global, refl, sym, ap, subst, ◌∙◌, arith, length-append, length-set, get_or-set_same, get_or-set_other}
use Rattle.std.specs.Prelude.{slice_get, slice_set, vec_capacity}
use Rattle.std.proofs.lemmas.Bool.{cases_eq}
use Rattle.std.proofs.lemmas.Option.{slice_get_within}
use Rattle.turnstile.specs.Seats.{given, keeps_all_but}
use Rattle.leaf_table.specs.Turns.{Shared}
use Rattle.leaf_table.specs.Calls.{SeatView}
use Rattle.leaf_table.specs.Lists.{lists_in, place, row}
use Rattle.leaf_steward.proofs.Seating.{same_at, set_get, set_other}
use Rattle.leaf_moves.specs.Holds.{caller_in}
use Rattle.leaf_moves.specs.Lanes.{SplitsIf}
use Rattle.player.specs.Crew.{column}
use Rattle.player.specs.Rows.{AreRows, IsCallersAt, IsColumn}
use Rattle.player.specs.Lending.{AreRoomy, RowSplits, RowsSplit, SlotSplits, SlotsSplit, SplitsFirst}
use Rattle.player.proofs.Columns.{below_or_not, caller_at, column_back, column_count, get_behind, get_front, row_beyond}

-- ---- one row

pub splits_none : (seats off : List SeatView) → off ≡ [] → SplitsFirst 0 seats off seats
splits_none seats off none = record {
  counts = (refl, ap (λ (vs : List SeatView). length vs) none);
  split = λ leaf s below at. absurd (omega (arith, below));
  others = λ leaf above. refl;
}

module _ (k next : ℕ) (seats off rest off' rest' : List SeatView) (s : SeatView) (is : next ≡ suc k) (so_far : SplitsFirst k seats off rest) (at : slice_get rest k ≡ Some s) (ids : 1 < s.share)
    (rest_is : rest' ≡ slice_set rest k (keeps_all_but 1 s)) (off_is : off' ≡ off ++ given 1 s ∷ []) where
  same_seat : (u : SeatView) → slice_get seats k ≡ Some u → s ≡ u
  same_seat u was = same_at rest k s u at (so_far.others k (omega arith) ∙ was)

  pub splits_more : SplitsFirst next seats off' rest'
  splits_more = record {
    counts = (
      ap (λ (vs : List SeatView). length vs) rest_is ∙ (length-set rest k (keeps_all_but 1 s) ∙ so_far.counts.0),
      omega (arith, ap (λ (vs : List SeatView). length vs) off_is, length-append off (given 1 s ∷ []), so_far.counts.1, is),
    );
    split = λ leaf u below was. by leaf u below was (cases_eq leaf k);
    others = λ leaf above.
        ap (λ (vs : List SeatView). slice_get vs leaf) rest_is ∙ (set_other rest k leaf (keeps_all_but 1 s) (λ same. omega (arith, same, above, is)) ∙ so_far.others leaf (omega (arith, above, is)));
  }
    where
      by : (leaf : ℕ) (u : SeatView) → leaf < next → slice_get seats leaf ≡ Some u → (leaf ≡ k) ⊎ (leaf ≢ k)
          → (1 < u.share) × (slice_get off' leaf ≡ Some (given 1 u)) × (slice_get rest' leaf ≡ Some (keeps_all_but 1 u))
      by leaf u below was (inl here) =
          let seat : s ≡ u = same_seat u (subst (λ (n : ℕ). slice_get seats n ≡ Some u) here was) in
          subst (λ (v : SeatView). (1 < v.share) × (slice_get off' leaf ≡ Some (given 1 v)) × (slice_get rest' leaf ≡ Some (keeps_all_but 1 v))) seat (
            ids,
            ap (λ (vs : List SeatView). slice_get vs leaf) off_is ∙ get_behind off (given 1 s) [] leaf (omega (arith, here, so_far.counts.1)),
            ap (λ (vs : List SeatView). slice_get vs leaf) rest_is ∙ (ap (λ (n : ℕ). slice_get (slice_set rest k (keeps_all_but 1 s)) n) here ∙ set_get rest k s (keeps_all_but 1 s) at),
          )
      by leaf u below was (inr apart) =
          let old = so_far.split leaf u (omega (arith, below, is, apart)) was in (
            old.0,
            ap (λ (vs : List SeatView). slice_get vs leaf) off_is ∙ get_front off (given 1 s ∷ []) leaf (slice_get_within off leaf (given 1 u) old.1) ∙ old.1,
            ap (λ (vs : List SeatView). slice_get vs leaf) rest_is ∙ (set_other rest k leaf (keeps_all_but 1 s) apart ∙ old.2),
          )

-- ---- the slots

module _ {A : Type 0} (needs : ℕ → Bool) where
  pub slots_none : (slots off : List (Option A)) → off ≡ [] → SlotsSplit 0 needs slots off slots
  slots_none slots off none = record {
    counts = (refl, ap (λ (os : List (Option A)). length os) none);
    split = λ leaf x o r below at there now. absurd (omega (arith, below));
    others = λ leaf above. refl;
  }

  module _ (k next : ℕ) (slots off rest off' rest' : List (Option A)) (slot cut left : Option A) (is : next ≡ suc k) (so_far : SlotsSplit k needs slots off rest) (at : slice_get rest k ≡ Some slot)
      (split : SlotSplits (needs k) slot cut left) (rest_is : rest' ≡ slice_set rest k left) (off_is : off' ≡ off ++ cut ∷ []) where
    pub slots_more : SlotsSplit next needs slots off' rest'
    slots_more = record {
      counts = (
        ap (λ (os : List (Option A)). length os) rest_is ∙ (length-set rest k left ∙ so_far.counts.0),
        omega (arith, ap (λ (os : List (Option A)). length os) off_is, length-append off (cut ∷ []), so_far.counts.1, is),
      );
      split = λ leaf x o r below was there now. by leaf x o r below was there now (cases_eq leaf k);
      others = λ leaf above.
          ap (λ (os : List (Option A)). slice_get os leaf) rest_is ∙ (set_other rest k leaf left (λ same. omega (arith, same, above, is)) ∙ so_far.others leaf (omega (arith, above, is)));
    }
      where
        by : (leaf : ℕ) (x o r : Option A) → leaf < next → slice_get slots leaf ≡ Some x → slice_get off' leaf ≡ Some o → slice_get rest' leaf ≡ Some r → (leaf ≡ k) ⊎ (leaf ≢ k) → SlotSplits (needs leaf) x o r
        by leaf x o r below was there now (inl here) =
            let the_slot : slot ≡ x = same_at rest k slot x at (so_far.others k (omega arith) ∙ subst (λ (n : ℕ). slice_get slots n ≡ Some x) here was) in
            let the_cut : cut ≡ o = same_at off' leaf cut o (ap (λ (os : List (Option A)). slice_get os leaf) off_is ∙ get_behind off cut [] leaf (omega (arith, here, so_far.counts.1))) there in
            let the_rest : left ≡ r = same_at rest' leaf left r
            (ap (λ (os : List (Option A)). slice_get os leaf) rest_is ∙ (ap (λ (n : ℕ). slice_get (slice_set rest k left) n) here ∙ set_get rest k slot left at)) now in
            subst (λ (n : ℕ). SlotSplits (needs n) x o r) (sym here)
            (subst (λ (z : Option A). SlotSplits (needs k) z o r) the_slot (subst (λ (z : Option A). SlotSplits (needs k) slot z r) the_cut (subst (λ (z : Option A). SlotSplits (needs k) slot cut z) the_rest split)))
        by leaf x o r below was there now (inr apart) =
            so_far.split leaf x o r (omega (arith, below, is, apart)) was
            (sym (get_front off (cut ∷ []) leaf (omega (arith, below, is, apart, so_far.counts.1))) ∙ (ap (λ (os : List (Option A)). slice_get os leaf) (sym off_is) ∙ there))
            (sym (ap (λ (os : List (Option A)). slice_get os leaf) rest_is ∙ set_other rest k leaf left apart) ∙ now)

-- ---- the rows

pub rows_none : (needs : ℕ → Bool) (rows offs : List (List SeatView)) → length offs ≡ length rows → ((table : ℕ) → row offs table ≡ []) → RowsSplit 0 needs rows offs rows
rows_none needs rows offs count none = record {
  counts = (refl, count);
  split = λ table below. absurd (omega (arith, below));
  others = λ table above. (refl, none table);
}

pub rows_more : (k next : ℕ) (needs : ℕ → Bool) (rows offs rests offs' rests' : List (List SeatView)) (off rest : List SeatView) → next ≡ suc k → k < length rows → RowsSplit k needs rows offs rests
    → RowSplits (needs k) (row rests k) off rest → offs' ≡ slice_set offs k off → rests' ≡ slice_set rests k rest → RowsSplit next needs rows offs' rests'
rows_more k next needs rows offs rests offs' rests' off rest is inside so_far split offs_are rests_are = record {
  counts = (
    ap (λ (ls : List (List SeatView)). length ls) rests_are ∙ (length-set rests k rest ∙ so_far.counts.0),
    ap (λ (ls : List (List SeatView)). length ls) offs_are ∙ (length-set offs k off ∙ so_far.counts.1),
  );
  split = λ table below. by table below (cases_eq table k);
  others = λ table above.
      let apart : table ≢ k = λ same. omega (arith, same, above, is) in
      let old = so_far.others table (omega (arith, above, is)) in (
        ap (λ (ls : List (List SeatView)). row ls table) rests_are ∙ (get_or-set_other rests k table rest [] apart ∙ old.0),
        ap (λ (ls : List (List SeatView)). row ls table) offs_are ∙ (get_or-set_other offs k table off [] apart ∙ old.1),
      );
}
  where
    by : (table : ℕ) → table < next → (table ≡ k) ⊎ (table ≢ k) → RowSplits (needs table) (row rows table) (row offs' table) (row rests' table)
    by table below (inl here) =
        let now_off : row offs' k ≡ off = ap (λ (ls : List (List SeatView)). row ls k) offs_are ∙ get_or-set_same offs k off [] (omega (arith, inside, so_far.counts.1)) in
        let now_rest : row rests' k ≡ rest = ap (λ (ls : List (List SeatView)). row ls k) rests_are ∙ get_or-set_same rests k rest [] (omega (arith, inside, so_far.counts.0)) in
        subst (λ (n : ℕ). RowSplits (needs n) (row rows n) (row offs' n) (row rests' n)) (sym here)
        (subst (λ (vs : List SeatView). RowSplits (needs k) vs (row offs' k) (row rests' k)) (so_far.others k (omega arith)).0
        (subst (λ (vs : List SeatView). RowSplits (needs k) (row rests k) vs (row rests' k)) (sym now_off)
        (subst (λ (vs : List SeatView). RowSplits (needs k) (row rests k) off vs) (sym now_rest) split)))
    by table below (inr apart) =
        subst (λ (vs : List SeatView). RowSplits (needs table) (row rows table) vs (row rests' table)) (sym (ap (λ (ls : List (List SeatView)). row ls table) offs_are ∙ get_or-set_other offs k table off [] apart))
        (subst (λ (vs : List SeatView). RowSplits (needs table) (row rows table) (row offs table) vs) (sym (ap (λ (ls : List (List SeatView)). row ls table) rests_are ∙ get_or-set_other rests k table rest [] apart))
        (so_far.split table (omega (arith, below, is, apart))))

-- ---- seats that were split

pub given_seat : (t : Shared) (s : SeatView) → IsCallersAt t s → 1 < s.share → IsCallersAt t (given 1 s)
given_seat t s is ids = record { seat = record { at = is.seat.at; base = is.seat.base; has_id = omega arith }; caller = omega (arith, is.caller, ids); legal = is.legal }

pub kept_seat : (t : Shared) (s : SeatView) → IsCallersAt t s → 1 < s.share → IsCallersAt t (keeps_all_but 1 s)
kept_seat t s is ids = record { seat = record { at = is.seat.at; base = is.seat.base; has_id = omega (arith, ids) }; caller = is.caller; legal = is.legal }

-- a column of rows of which each seat there is a callers' seat
pub column_of : (leaf size : ℕ) (tables : List Shared) (rows : List (List SeatView)) → AreRows (length tables) size rows → leaf < size → length tables ≤ 16
    → ((table : ℕ) (t : Shared) (c : SeatView) → slice_get tables table ≡ Some t → place rows table leaf ≡ Some c → IsCallersAt t c) → IsColumn leaf tables rows
column_of leaf size tables rows are within few each = record {
  size = size;
  sizes = are;
  within = within;
  few = few;
  called = record { count = column_count leaf rows ∙ are.count; each = λ table t c at seat. each table t c at (column_back leaf rows table (Some c) seat) };
}

pub no_seat : {A : Type 0} (i : ℕ) (xs : List A) (x : A) → xs ≡ [] → slice_get xs i ≡ Some x → ⊥
no_seat {A} i xs x none at = omega (arith, slice_get_within xs i x at, ap (λ (ys : List A). length ys) none)

module _ (k : ℕ) (needs : ℕ → Bool) (rows offs rests : List (List SeatView)) (split : RowsSplit k needs rows offs rests) (all : length rows ≤ k) where
  -- each table of them
  pub each_row : (table : ℕ) → RowSplits (needs table) (row rows table) (row offs table) (row rests table)
  each_row table = by (below_or_not table k)
    where
      beyond : k ≤ table → RowSplits (needs table) (row rows table) (row offs table) (row rests table)
      beyond above = out (needs table)
        where
          old : (row rests table ≡ row rows table) × (row offs table ≡ [])
          old = split.others table above

          out : (b : Bool) → RowSplits b (row rows table) (row offs table) (row rests table)
          out true = record {
            counts = (ap (λ (vs : List SeatView). length vs) old.0, ap (λ (vs : List SeatView). length vs) (old.1 ∙ sym (row_beyond rows table (omega (arith, all, above)))));
            split = λ leaf s below at. absurd (no_seat leaf (row rows table) s (row_beyond rows table (omega (arith, all, above))) at);
            others = λ leaf above. ap (λ (vs : List SeatView). slice_get vs leaf) old.0;
          }
          out false = (old.1, old.0)

      by : (table < k) ⊎ (k ≤ table) → RowSplits (needs table) (row rows table) (row offs table) (row rests table)
      by (inl below) = split.split table below
      by (inr above) = beyond above

  -- one seat of them
  seats_split : (leaf table : ℕ) (b : Bool) → RowSplits b (row rows table) (row offs table) (row rests table) → SplitsIf b (place rows table leaf) (place offs table leaf) (place rests table leaf)
  seats_split leaf table true is = by (place rows table leaf) refl
    where
      gone : {A : Type 0} (xs ys : List A) (i : ℕ) → length ys ≡ length xs → slice_get xs i ≡ None → slice_get ys i ≡ None
      gone [] [] i same none = none
      gone [] (y ∷ ys) i same none = absurd (omega (arith, same))
      gone (x ∷ xs) [] i same none = absurd (omega (arith, same))
      gone (x ∷ xs) (y ∷ ys) zero same none = absurd cc
      gone (x ∷ xs) (y ∷ ys) (suc i) same none = gone xs ys i (omega (arith, same)) none

      by : (o : Option SeatView) → place rows table leaf ≡ o → SplitsIf true o (place offs table leaf) (place rests table leaf)
      by None at = (gone (row rows table) (row offs table) leaf is.counts.1 at, gone (row rows table) (row rests table) leaf is.counts.0 at)
      by (Some s) at = is.split leaf s (slice_get_within (row rows table) leaf s at) at
  seats_split leaf table false is = by (place rows table leaf) refl
    where
      none_in : (vs : List SeatView) → vs ≡ [] → slice_get vs leaf ≡ None
      none_in vs none = ap (λ (us : List SeatView). slice_get us leaf) none

      by : (o : Option SeatView) → place rows table leaf ≡ o → SplitsIf false o (place offs table leaf) (place rests table leaf)
      by None at = (none_in (row offs table) is.0, ap (λ (vs : List SeatView). slice_get vs leaf) is.1 ∙ at)
      by (Some s) at = (none_in (row offs table) is.0, ap (λ (vs : List SeatView). slice_get vs leaf) is.1 ∙ at)

  pub callers_split : (leaf table : ℕ) → SplitsIf (needs table) (caller_in (column leaf rows) table) (caller_in (column leaf offs) table) (caller_in (column leaf rests) table)
  callers_split leaf table =
      subst (λ (o : Option SeatView). SplitsIf (needs table) o (caller_in (column leaf offs) table) (caller_in (column leaf rests) table)) (sym (caller_at leaf rows table))
      (subst (λ (o : Option SeatView). SplitsIf (needs table) (place rows table leaf) o (caller_in (column leaf rests) table)) (sym (caller_at leaf offs table))
      (subst (λ (o : Option SeatView). SplitsIf (needs table) (place rows table leaf) (place offs table leaf) o) (sym (caller_at leaf rests table)) (seats_split leaf table (needs table) (each_row table))))

-- ---- rows that are made

pub get_other : {A : Type 0} (xs : List A) (i j : ℕ) (y z : A) → i < j → slice_get (slice_set xs i y) j ≡ Some z → slice_get xs j ≡ Some z
get_other xs i j y z above at = sym (set_other xs i j y (λ same. omega (arith, same, above))) ∙ at

pub rows_empty : (rows : List (Vec SeatView Global)) → ((table : ℕ) (v : Vec SeatView Global) → slice_get rows table ≡ Some v → v.items ≡ []) → (table : ℕ) → row (lists_in rows) table ≡ []
rows_empty [] none table = refl
rows_empty (v ∷ vs) none zero = none 0 v refl
rows_empty (v ∷ vs) none (suc table) = rows_empty vs (λ t u at. none (suc t) u at) table

module _ (needs : ℕ → Bool) (room : ℕ) where
  pub roomy_none : (rows : List (Vec SeatView Global)) → rows ≡ [] → AreRoomy needs room rows
  roomy_none rows none = subst (AreRoomy needs room) (sym none) (record { each = λ table v at. absurd cc })

  pub roomy_more : (k : ℕ) (rows rows' : List (Vec SeatView Global)) (v : Vec SeatView Global) → length rows ≡ k → AreRoomy needs room rows → rows' ≡ rows ++ v ∷ [] → v.items ≡ []
      → (needs k ≡ true → room ≤ vec_capacity v) → AreRoomy needs room rows'
  roomy_more k rows rows' v count roomy are none space =
      subst (AreRoomy needs room) (sym are) (record { each = λ table u at. by table u at (cases_eq table k) })
    where
      by : (table : ℕ) (u : Vec SeatView Global) → slice_get (rows ++ v ∷ []) table ≡ Some u → (table ≡ k) ⊎ (table ≢ k) → (u.items ≡ []) × (needs table ≡ true → room ≤ vec_capacity u)
      by table u at (inl here) =
          let is : v ≡ u = same_at (rows ++ v ∷ []) table v u (get_behind rows v [] table (omega (arith, here, count))) at in
          subst (λ (w : Vec SeatView Global). (w.items ≡ []) × (needs table ≡ true → room ≤ vec_capacity w)) is
          (none, subst (λ (n : ℕ). needs n ≡ true → room ≤ vec_capacity v) (sym here) space)
      by table u at (inr apart) =
          let below : table < length rows = omega (arith, apart, count, slice_get_within (rows ++ v ∷ []) table u at, length-append rows (v ∷ [])) in
          roomy.each table u (sym (get_front rows (v ∷ []) table below) ∙ at)
