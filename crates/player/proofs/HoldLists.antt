-- The leaves of a crew, as a list of what it holds of each.
use Rattle.std.proofs.Common.{◌≡◌, ◌≢◌, true, ℕ, zero, suc, ◌+◌, ◌<◌, ◌≤◌, List, [], ◌∷◌, length, Option, Some, None, refl, sym, ap, ap₂, subst, ◌∙◌, arith}
use Rattle.std.specs.Prelude.{slice_get, slice_set, is_some}
use Rattle.leaf_table.specs.Turns.{Shared}
use Rattle.leaf_table.specs.Calls.{SeatView}
use Rattle.leaf_table.specs.Lists.{place}
use Rattle.leaf_moves.specs.Holds.{Hold}
use Rattle.leaf_deeds.specs.declared.leaf.OneLeaf.{OneLeaf}
use Rattle.player.specs.Crew.{HasLeaf, HasSeats, StillHas, column}
use Rattle.player.specs.Rows.{HasSeat}
use Rattle.player.specs.Stage.{held_of, hold_at}
use Rattle.player.specs.Members.{holds_from}
use Rattle.player.proofs.Columns.{caller_at, element_at, same_some}

module _ {B : Type 0} where
  pub holds_at : (first i leaf : ℕ) (tables : List (List Shared)) (xs : List (Option (OneLeaf B))) (x : Option (OneLeaf B)) (rows : List (List SeatView)) → leaf ≡ first + i → slice_get xs i ≡ Some x
      → slice_get (holds_from first tables xs rows) i ≡ Some (hold_at leaf tables rows x)
  holds_at first i leaf tables [] x rows is at = absurd cc
  holds_at first zero leaf tables (y ∷ ys) x rows is at =
      let here : first ≡ leaf = omega (arith, is) in
      ap₂ (λ (z : Option (OneLeaf B)) (n : ℕ). Some (hold_at n tables rows z)) (same_some y x at) here
  holds_at first (suc i) leaf tables (y ∷ ys) x rows is at = holds_at (suc first) i leaf tables ys x rows (omega (arith, is)) at

  -- what is held there is a leaf's
  pub holds_back : (first i leaf : ℕ) (tables : List (List Shared)) (xs : List (Option (OneLeaf B))) (h : Hold B) (rows : List (List SeatView)) → leaf ≡ first + i
      → slice_get (holds_from first tables xs rows) i ≡ Some h → (x : Option (OneLeaf B)) × (slice_get xs i ≡ Some x) × (h ≡ hold_at leaf tables rows x)
  holds_back first i leaf tables [] h rows is at = absurd cc
  holds_back first zero leaf tables (y ∷ ys) h rows is at =
      let here : first ≡ leaf = omega (arith, is) in
      (y, refl, sym (same_some (hold_at first tables rows y) h at) ∙ ap (λ (n : ℕ). hold_at n tables rows y) here)
  holds_back first (suc i) leaf tables (y ∷ ys) h rows is at = holds_back (suc first) i leaf tables ys h rows (omega (arith, is)) at

  pub holds_count : (first : ℕ) (tables : List (List Shared)) (xs : List (Option (OneLeaf B))) (rows : List (List SeatView)) → length (holds_from first tables xs rows) ≡ length xs
  holds_count first tables [] rows = refl
  holds_count first tables (x ∷ xs) rows = ap suc (holds_count (suc first) tables xs rows)

  -- while the columns are the same
  pub holds_same : (first : ℕ) (tables : List (List Shared)) (xs : List (Option (OneLeaf B))) (rows rows' : List (List SeatView)) → ((leaf : ℕ) → first ≤ leaf → column leaf rows' ≡ column leaf rows)
      → holds_from first tables xs rows' ≡ holds_from first tables xs rows
  holds_same first tables [] rows rows' same = refl
  holds_same first tables (x ∷ xs) rows rows' same =
      ap₂ (λ (cs : List (Option SeatView)) (hs : List (Hold B)). record { tables = (hold_at first tables rows x).tables; callers = cs; held = held_of x } ∷ hs) (same first (omega arith))
      (holds_same (suc first) tables xs rows rows' (λ leaf above. same leaf (omega (arith, above))))

  -- one leaf has become another, and its column
  pub holds_set : (first i leaf : ℕ) (tables : List (List Shared)) (xs : List (Option (OneLeaf B))) (y : Option (OneLeaf B)) (rows rows' : List (List SeatView)) → leaf ≡ first + i
      → ((other : ℕ) → other ≢ leaf → column other rows' ≡ column other rows)
      → holds_from first tables (slice_set xs i y) rows' ≡ slice_set (holds_from first tables xs rows) i (hold_at leaf tables rows' y)
  holds_set first i leaf tables [] y rows rows' is others = refl
  holds_set first zero leaf tables (x ∷ xs) y rows rows' is others =
      let here : first ≡ leaf = omega (arith, is) in
      ap₂ (λ (n : ℕ) (hs : List (Hold B)). hold_at n tables rows' y ∷ hs) here
      (holds_same (suc first) tables xs rows rows' (λ other above. others other (λ same. omega (arith, same, above, is))))
  holds_set first (suc i) leaf tables (x ∷ xs) y rows rows' is others =
      ap₂ (λ (cs : List (Option SeatView)) (hs : List (Hold B)). record { tables = (hold_at first tables rows x).tables; callers = cs; held = held_of x } ∷ hs)
      (others first (λ same. omega (arith, same, is))) (holds_set (suc first) i leaf tables xs y rows rows' (omega (arith, is)) others)

  -- ---- what is held

  -- a leaf that is held
  pub leaf_held : (tables : List (List Shared)) (xs : List (Option (OneLeaf B))) (rows : List (List SeatView)) (leaf : ℕ) → HasLeaf (holds_from 0 tables xs rows) leaf → leaf < length xs
      → (one : OneLeaf B) × (slice_get xs leaf ≡ Some (Some one))
  leaf_held tables xs rows leaf has below =
      let there = element_at xs leaf below in
      by there.0 there.1 (has (hold_at leaf tables rows there.0) (holds_at 0 leaf leaf tables xs there.0 rows (omega arith) there.1))
    where
      by : (o : Option (OneLeaf B)) → slice_get xs leaf ≡ Some o → is_some (held_of o) ≡ true → (one : OneLeaf B) × (slice_get xs leaf ≡ Some (Some one))
      by None at held = absurd cc
      by (Some one) at held = (one, at)

  -- a table of which there are seats has one at each leaf
  pub seat_held : (tables : List (List Shared)) (xs : List (Option (OneLeaf B))) (rows : List (List SeatView)) (leaf table : ℕ) → HasSeats (holds_from 0 tables xs rows) table → leaf < length xs
      → HasSeat leaf table rows
  seat_held tables xs rows leaf table has below =
      let there = element_at xs leaf below in
      by (place rows table leaf) refl
      (subst (λ (o : Option SeatView). is_some o ≡ true) (caller_at leaf rows table) (has leaf (hold_at leaf tables rows there.0) (holds_at 0 leaf leaf tables xs there.0 rows (omega arith) there.1)))
    where
      by : (o : Option SeatView) → place rows table leaf ≡ o → is_some o ≡ true → HasSeat leaf table rows
      by None is some = absurd cc
      by (Some c) is some = (c, is)

-- ---- the same is held still

module _ {B : Type 0} (xs ys : List (Hold B)) (still : StillHas xs ys) where
  was_there : (leaf : ℕ) (y : Hold B) → slice_get ys leaf ≡ Some y → (x : Hold B) × (slice_get xs leaf ≡ Some x)
  was_there leaf y at = element_at xs leaf (omega (arith, still.count, within ys leaf y at))
    where
      within : (zs : List (Hold B)) (i : ℕ) (z : Hold B) → slice_get zs i ≡ Some z → i < length zs
      within [] i z at = absurd cc
      within (w ∷ ws) zero z at = omega arith
      within (w ∷ ws) (suc i) z at = let below = within ws i z at in omega (arith, below)

  pub still_leaf : (leaf : ℕ) → HasLeaf xs leaf → HasLeaf ys leaf
  still_leaf leaf has = λ y at. let x = was_there leaf y at in (still.each leaf x.0 y x.1 at).0 ∙ has x.0 x.1

  pub still_seats : (table : ℕ) → HasSeats xs table → HasSeats ys table
  still_seats table has = λ leaf y at. let x = was_there leaf y at in (still.each leaf x.0 y x.1 at).1 table ∙ has leaf x.0 x.1
