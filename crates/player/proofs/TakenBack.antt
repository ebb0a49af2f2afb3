-- A crew that takes a lane's seats and leaves back.
use Rattle.std.proofs.Common.{◌≡◌, ◌⊎◌, inl, inr, ℕ, ◌<◌, ◌≤◌, List, length, Option, Some, None, Vec, Global, refl, sym, ap, subst, ◌∙◌, arith, length-set}
use Rattle.std.specs.Prelude.{slice_get, slice_set, slice_index_or, is_some}
use Rattle.std.proofs.lemmas.Option.{slice_get_within}
use Rattle.berth_face.specs.Berth.{Meaning}
use Rattle.leaf_history.specs.History.{LegalFrom}
use Rattle.leaf_table.specs.Turns.{Shared, TurnsTaken, history, is_founded, start_of}
use Rattle.leaf_table.specs.Calls.{SeatView, base_seen}
use Rattle.leaf_table.specs.Lists.{lists_in, place, row}
use Rattle.leaf_steward.proofs.Seating.{same_at, set_get, set_same, told_legal}
use Rattle.script_text.specs.declared.fleet.FleetShape.{FleetShape}
use Rattle.script_text.specs.Commands.{leaf_count}
use Rattle.leaf_moves.specs.Holds.{Hold, HoldMeets, caller_in}
use Rattle.leaf_moves.specs.Lanes.{JoinsIf, JoinsTo, TakesBack, TakesBackAt}
use Rattle.leaf_deeds.specs.declared.leaf.OneLeaf.{OneLeaf}
use Rattle.player.specs.declared.members.Members.{Members}
use Rattle.player.specs.Crew.{HasLeaf, HasSeats, SameSeats, column}
use Rattle.player.specs.Rows.{IsCallersAt}
use Rattle.leaf_deeds.specs.Held.{berth_of, leaf_state}
use Rattle.player.specs.Stage.{held_of, hold_at}
use Rattle.player.specs.Members.{AreMembers, IsLeafOf, SameFleet, fleet_in, holds_from, holds_in}
use Rattle.player.specs.Lending.{MeetsLeaf}
use Rattle.player.specs.Returning.{JoinsFrom, LeafBack, LeavesBack, MayJoin}
use Rattle.player.proofs.Calling.{stands_at}
use Rattle.player.proofs.Columns.{below_or_not, caller_at, column_count, element_at, only_none, row_size, rows_kept}
use Rattle.player.proofs.HoldLists.{holds_at, holds_back, holds_count, holds_set, seat_held}
use Rattle.player.proofs.Lent.{column_of}
use Rattle.player.proofs.MemberSteps.{members_with, seat_of, seats_of_rows, set_twice, with_parts, with_rows}
use Rattle.player.proofs.Returned.{comes_back}

-- ---- one seat

pub joined_seat : (t : Shared) (s u w : SeatView) → IsCallersAt t s → IsCallersAt t u → JoinsTo s u w → IsCallersAt t w
joined_seat t s u w ours theirs j =
    let first = told_legal t s u j.one ours.legal theirs.legal j.met.steward in
    let second = told_legal t u s j.other theirs.legal ours.legal j.met.caller in
    let seen = told_legal t j.one j.other (record j.one { seen = j.joined.seen }) first second (record { seen = j.joined.seen; view = refl; longer = j.joined.longer }) in
    record {
      seat = record {
        at = ap (λ (x : SeatView). x.at) j.joined.view ∙ (ap (λ (x : SeatView). x.at) j.met.steward.view ∙ ours.seat.at);
        base = ap (λ (x : SeatView). x.base) j.joined.view ∙ (ap (λ (x : SeatView). x.base) j.met.steward.view ∙ ours.seat.base);
        has_id = omega (arith, ap (λ (x : SeatView). x.share) j.joined.view, ap (λ (x : SeatView). x.share) j.met.steward.view, ours.seat.has_id);
      };
      caller = omega (arith, ap (λ (x : SeatView). x.id) j.joined.view, ap (λ (x : SeatView). x.id) j.met.steward.view, ours.caller);
      legal = subst (λ (l : TurnsTaken). LegalFrom (is_founded (base_seen t)) (start_of (base_seen t)) (history l)) (sym (ap (λ (x : SeatView). x.seen) j.joined.view)) seen;
    }

joined_caller : (t : Shared) (s u : Option SeatView) (w : SeatView) → ((c : SeatView) → s ≡ Some c → IsCallersAt t c) → ((c : SeatView) → u ≡ Some c → IsCallersAt t c) → JoinsIf s u (Some w) → IsCallersAt t w
joined_caller t s None w ours theirs j = ours w (sym j)
joined_caller t None (Some u) w ours theirs j = absurd j
joined_caller t (Some s) (Some u) w ours theirs j = joined_seat t s u w (ours s refl) (theirs u refl) j

-- ---- leaves

module _ {B : Type 0} where
  leaf_moves : (x y : Members B) (leaf : ℕ) (one : OneLeaf B) → fleet_in y ≡ fleet_in x → y.tables.now ≡ x.tables.now → IsLeafOf x leaf one → IsLeafOf y leaf one
  leaf_moves x y leaf one fleet tables is = record {
    names = is.names ∙ sym (ap (λ (f : FleetShape). f.names) fleet);
    tables = is.tables ∙ ap (λ (ts : List (List Shared)). row ts leaf) (sym tables);
    seats = is.seats ∙ sym (ap (λ (f : FleetShape). length f.names) fleet);
  }

  pub leaf_moved : (x y : Members B) (leaf : ℕ) (one : OneLeaf B) → SameFleet x y → IsLeafOf x leaf one → IsLeafOf y leaf one
  leaf_moved x y leaf one same is = leaf_moves x y leaf one same.fleet same.tables is

  -- ---- one leaf

  module _ (x : Members B) (number : ℕ) (are : AreMembers x) (within : number < leaf_count (fleet_in x)) where
    low : number < length x.leaves.items
    low = omega (arith, within, are.leaves)

    pub back_nothing : (meaning : B → Meaning) (o : Option (OneLeaf B)) → o ≡ None → LeafBack meaning number (held_of o) (holds_in x) (holds_in x)
    back_nothing meaning o none =
        let slot = element_at x.leaves.items number low in
        let here = hold_at number x.tables.now (lists_in x.rows.items) slot.0 in
        let at = holds_at 0 number number x.tables.now x.leaves.items slot.0 (lists_in x.rows.items) (omega arith) slot.1 in
        subst (λ (p : Option (OneLeaf B)). LeafBack meaning number (held_of p) (holds_in x) (holds_in x)) (sym none)
        (record { before = here; after = here; at = at; tables = refl; comes = (refl, refl); now = sym (set_same (holds_in x) number here at) })

    module _ (free : (h : Hold B) → slice_get (holds_in x) number ≡ Some h → h.held ≡ None) where
      pub slot_free : (slot : Option (OneLeaf B)) → slot ≡ slice_index_or x.leaves.items number slot → slot ≡ None
      slot_free slot read =
          by slot (free (hold_at number x.tables.now (lists_in x.rows.items) slot)
          (holds_at 0 number number x.tables.now x.leaves.items slot (lists_in x.rows.items) (omega arith) (stands_at x.leaves.items number slot low read)))
        where
          by : (o : Option (OneLeaf B)) → held_of o ≡ None → o ≡ None
          by None none = refl
          by (Some one) none = absurd cc

    module _ (one : OneLeaf B) (leaves : Vec (Option (OneLeaf B)) Global) (now : leaves.items ≡ slice_set x.leaves.items number (Some one)) where
      there : slice_get leaves.items number ≡ Some (Some one)
      there =
          let slot = element_at x.leaves.items number low in
          ap (λ (ls : List (Option (OneLeaf B))). slice_get ls number) now ∙ set_get x.leaves.items number slot.0 (Some one) slot.1

      abbrev put_hold : Hold B
      put_hold = hold_at number x.tables.now (lists_in x.rows.items) (Some one)

      put_at : slice_get (holds_in (with_parts x leaves x.rows)) number ≡ Some put_hold
      put_at = holds_at 0 number number x.tables.now leaves.items (Some one) (lists_in x.rows.items) (omega arith) there

      pub members_put : IsLeafOf x number one → AreMembers (with_parts x leaves x.rows)
      members_put own = members_with x number one leaves x.rows are now (only_none number (lists_in x.rows.items)) (are.columns number within) own

      pub put_held : HasLeaf (holds_in (with_parts x leaves x.rows)) number
      put_held = λ h at. ap (λ (k : Hold B). is_some k.held) (same_at (holds_in (with_parts x leaves x.rows)) number h put_hold at put_at)

      pub put_seats : SameSeats (holds_in x) (holds_in (with_parts x leaves x.rows))
      put_seats =
          seats_of_rows x.tables.now x.leaves.items leaves.items (lists_in x.rows.items) (lists_in x.rows.items)
          (ap (λ (ls : List (Option (OneLeaf B))). length ls) now ∙ length-set x.leaves.items number (Some one)) (λ t. refl)

      holds_put : holds_in (with_parts x leaves x.rows) ≡ slice_set (holds_in x) number put_hold
      holds_put =
          ap (λ (ls : List (Option (OneLeaf B))). holds_from 0 x.tables.now ls (lists_in x.rows.items)) now
          ∙ holds_set 0 number number x.tables.now x.leaves.items (Some one) (lists_in x.rows.items) (lists_in x.rows.items) (omega arith) (λ other apart. refl)

      pub back_one : (meaning : B → Meaning) (zs : List (Hold B)) → MeetsLeaf meaning number (holds_in (with_parts x leaves x.rows)) zs → LeafBack meaning number (Some (leaf_state one, berth_of one)) (holds_in x) zs
      back_one meaning zs met =
          let slot = element_at x.leaves.items number low in
          let here = hold_at number x.tables.now (lists_in x.rows.items) slot.0 in
          let is : met.before ≡ put_hold = same_at (holds_in (with_parts x leaves x.rows)) number met.before put_hold met.at put_at in
          let back = comes_back meaning (leaf_state one) (berth_of one) here.held put_hold met.after refl (subst (λ (h : Hold B). HoldMeets meaning h met.after) is met.meets) in
          record {
            before = here;
            after = met.after;
            at = holds_at 0 number number x.tables.now x.leaves.items slot.0 (lists_in x.rows.items) (omega arith) slot.1;
            tables = back.0;
            comes = back.1;
            now = met.now ∙ (ap (λ (hs : List (Hold B)). slice_set hs number met.after) holds_put ∙ set_twice (holds_in x) number put_hold met.after);
          }

  -- ---- all of it

  module _ (x y : Members B) (are : AreMembers x) (are_off : AreMembers y) (same : SameFleet x y) where
    abbrev xs : List (List SeatView)
    xs = lists_in x.rows.items

    abbrev ys : List (List SeatView)
    ys = lists_in y.rows.items

    abbrev count : ℕ
    count = leaf_count (fleet_in x)

    seat_off : (table leaf : ℕ) (u : SeatView) → place ys table leaf ≡ Some u → (t : Shared) × (place x.tables.now leaf table ≡ Some t) × IsCallersAt t u
    seat_off table leaf u at =
        let found = seat_of y table leaf u are_off at in
        (found.0, ap (λ (ts : List (List Shared)). place ts leaf table) (sym same.tables) ∙ found.1, found.2)

    off_size : (table : ℕ) → length (row ys table) ≤ count
    off_size table = let size = row_size (length y.names) (leaf_count (fleet_in y)) ys table are_off.rows in omega (arith, size, ap leaf_count same.fleet)

    pub may_join : (table : ℕ) → HasSeats (holds_in x) table → MayJoin x.tables.now table (row xs table) (row ys table)
    may_join table has =
        let size = row_size (length x.names) count xs table are.rows in
        record {
          few = omega (arith, size, are.few.few);
          counts = (no_more (below_or_not (length (row xs table)) (length (row ys table))), omega (arith, size, are.tables));
          ours = λ leaf s at. let found = seat_of x table leaf s are at in (found.0, found.1, found.2.seat);
          theirs = λ leaf u at. let found = seat_off table leaf u at in (found.0, found.1, found.2.seat);
        }
      where
        no_more : (length (row xs table) < length (row ys table)) ⊎ (length (row ys table) ≤ length (row xs table)) → length (row ys table) ≤ length (row xs table)
        no_more (inr few) = few
        no_more (inl more) =
            let seat = seat_held x.tables.now x.leaves.items xs (length (row xs table)) table has (omega (arith, more, off_size table, are.leaves)) in
            absurd (omega (arith, slice_get_within (row xs table) (length (row xs table)) seat.0 seat.1))

    module _ (rows : Vec (Vec SeatView Global) Global) (rows_count : length (lists_in rows.items) ≡ length xs) (joins : (table : ℕ) → JoinsFrom 0 (row xs table) (row ys table) (row (lists_in rows.items) table)) where
      abbrev zs : List (List SeatView)
      zs = lists_in rows.items

      abbrev between : Members B
      between = with_parts x x.leaves rows

      caller_joined : (leaf table : ℕ) (t : Shared) (w : SeatView) → slice_get (row x.tables.now leaf) table ≡ Some t → place zs table leaf ≡ Some w → IsCallersAt t w
      caller_joined leaf table t w at seat =
          joined_caller t (place xs table leaf) (place ys table leaf) w
          (λ c is. let found = seat_of x table leaf c are is in subst (λ (u : Shared). IsCallersAt u c) (same_at (row x.tables.now leaf) table found.0 t found.1 at) found.2)
          (λ c is. let found = seat_off table leaf c is in subst (λ (u : Shared). IsCallersAt u c) (same_at (row x.tables.now leaf) table found.0 t found.1 at) found.2)
          (subst (λ (o : Option SeatView). JoinsIf (place xs table leaf) (place ys table leaf) o) seat ((joins table).joined leaf (omega arith)))

      pub members_between : AreMembers between
      members_between = with_rows x rows are (rows_kept (length x.names) count xs zs rows_count (λ t. (joins t).count) are.rows) (λ leaf below.
          let old = are.columns leaf below in
          column_of leaf count (row x.tables.now leaf) zs
          (rows_kept (length (row x.tables.now leaf)) count xs zs rows_count (λ t. (joins t).count)
          (record { count = old.sizes.count; each = λ table under. are.rows.each table (omega (arith, under, old.sizes.count, are.rows.count)) })) below old.few
          (λ table t c at seat. caller_joined leaf table t c at seat))

      pub free_between : ((leaf : ℕ) (h g : Hold B) → slice_get (holds_in x) leaf ≡ Some h → slice_get (holds_in y) leaf ≡ Some g → (h.held ≡ None) ⊎ (g.held ≡ None))
          → (leaf : ℕ) (h : Hold B) (o : Option (OneLeaf B)) → slice_get (holds_in between) leaf ≡ Some h → slice_get y.leaves.items leaf ≡ Some o → (h.held ≡ None) ⊎ (held_of o ≡ None)
      free_between apart leaf h o at there =
          let a = holds_back 0 leaf leaf x.tables.now x.leaves.items h zs (omega arith) at in
          subst (λ (k : Hold B). (k.held ≡ None) ⊎ (held_of o ≡ None)) (sym a.2)
          (apart leaf (hold_at leaf x.tables.now xs a.0) (hold_at leaf y.tables.now ys o)
          (holds_at 0 leaf leaf x.tables.now x.leaves.items a.0 xs (omega arith) a.1)
          (holds_at 0 leaf leaf y.tables.now y.leaves.items o ys (omega arith) there))

      pub own_between : (leaf : ℕ) (one : OneLeaf B) → slice_get y.leaves.items leaf ≡ Some (Some one) → IsLeafOf between leaf one
      own_between leaf one at = leaf_moves y between leaf one (sym same.fleet) (sym same.tables) (are_off.each leaf one at)

      pub seats_between : SameSeats (holds_in x) (holds_in between)
      seats_between = seats_of_rows x.tables.now x.leaves.items x.leaves.items xs zs refl (λ t. (joins t).count)

      pub takes_back : (meaning : B → Meaning) (hs : List (Hold B)) → LeavesBack meaning 0 y.leaves.items (holds_in between) hs → TakesBack meaning (holds_in x) (holds_in y) hs
      takes_back meaning hs back =
          let size : length hs ≡ length x.leaves.items = back.count ∙ holds_count 0 x.tables.now x.leaves.items zs in
          record {
            counts = (
              omega (arith, size, holds_count 0 x.tables.now x.leaves.items xs),
              omega (arith, size, holds_count 0 y.tables.now y.leaves.items ys, are.leaves, are_off.leaves, ap leaf_count same.fleet),
            );
            each = λ leaf r o h at there now.
                let a = holds_back 0 leaf leaf x.tables.now x.leaves.items r xs (omega arith) at in
                let b = holds_back 0 leaf leaf y.tables.now y.leaves.items o ys (omega arith) there in
                let came = back.back leaf (hold_at leaf x.tables.now zs a.0) h b.0 (omega arith) (holds_at 0 leaf leaf x.tables.now x.leaves.items a.0 zs (omega arith) a.1) b.1 now in
                subst (λ (k : Hold B). TakesBackAt meaning k o h) (sym a.2)
                (subst (λ (k : Hold B). TakesBackAt meaning (hold_at leaf x.tables.now xs a.0) k h) (sym b.2)
                (record {
                  tables = came.0;
                  joined = column leaf zs;
                  count = column_count leaf zs ∙ (rows_count ∙ sym (column_count leaf xs));
                  seats = λ table. seats_joined leaf table;
                  held = came.1;
                }));
          }
        where
          seats_joined : (leaf table : ℕ) → JoinsIf (caller_in (column leaf xs) table) (caller_in (column leaf ys) table) (caller_in (column leaf zs) table)
          seats_joined leaf table =
              subst (λ (o : Option SeatView). JoinsIf o (caller_in (column leaf ys) table) (caller_in (column leaf zs) table)) (sym (caller_at leaf xs table))
              (subst (λ (o : Option SeatView). JoinsIf (place xs table leaf) o (caller_in (column leaf zs) table)) (sym (caller_at leaf ys table))
              (subst (λ (o : Option SeatView). JoinsIf (place xs table leaf) (place ys table leaf) o) (sym (caller_at leaf zs table)) ((joins table).joined leaf (omega arith))))
