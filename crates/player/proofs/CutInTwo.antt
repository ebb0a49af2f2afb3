-- A crew is cut in two.
use Rattle.std.proofs.Common.{◌≡◌, ◌⊎◌, inl, Bool, true, false, ℕ, ◌<◌, ◌≤◌, List, [], length, map, Option, Some, None, sym, ap, subst, ◌∙◌, arith}
use Rattle.std.specs.Prelude.{slice_get, MatchBool}
use Rattle.std.proofs.lemmas.Option.{slice_get_within}
use Rattle.turnstile.specs.Seats.{given, keeps_all_but}
use Rattle.region_layout.specs.Names.{AreNames}
use Rattle.script_text.specs.Fits.{AreLeaves}
use Rattle.leaf_table.specs.Turns.{Shared}
use Rattle.leaf_table.specs.Calls.{SeatView, name_of}
use Rattle.leaf_table.specs.Lists.{lists_in, place, row}
use Rattle.leaf_steward.proofs.Seating.{same_at}
use Rattle.script_text.specs.Commands.{leaf_count}
use Rattle.leaf_moves.specs.Holds.{Hold}
use Rattle.leaf_moves.specs.Lanes.{CutsOff, CutsOffAt}
use Rattle.leaf_deeds.specs.declared.leaf.OneLeaf.{OneLeaf}
use Rattle.player.specs.declared.members.Members.{Members}
use Rattle.player.specs.Crew.{Spares}
use Rattle.player.specs.Rows.{AreRows, IsCallersAt, IsColumn}
use Rattle.player.specs.Stage.{held_of, hold_at}
use Rattle.player.specs.Members.{AreMembers, fleet_in, holds_in}
use Rattle.player.specs.Lending.{MaySplit, RowSplits, RowsSplit, SlotSplits, SlotsSplit}
use Rattle.player.proofs.Columns.{caller_at, column_count, column_get, element_at, row_size, same_size}
use Rattle.player.proofs.HoldLists.{holds_at, holds_back, holds_count}
use Rattle.player.proofs.Lent.{callers_split, column_of, each_row, given_seat, kept_seat, no_seat}
use Rattle.player.proofs.MemberSteps.{seat_of}

held_split : {B : Type 0} (b : Bool) (x o r : Option (OneLeaf B)) → SlotSplits b x o r → MatchBool b ((held_of o ≡ held_of x) × (held_of r ≡ None)) ((held_of o ≡ None) × (held_of r ≡ held_of x))
held_split true x o r is = (ap (λ (z : Option (OneLeaf _)). held_of z) is.0, ap (λ (z : Option (OneLeaf _)). held_of z) is.1)
held_split false x o r is = (ap (λ (z : Option (OneLeaf _)). held_of z) is.0, ap (λ (z : Option (OneLeaf _)). held_of z) is.1)

-- of which slot a leaf comes that was taken, or is left
slot_taken : {A : Type 0} (b : Bool) (x o r : Option A) (one : A) → SlotSplits b x o r → o ≡ Some one → x ≡ Some one
slot_taken true x o r one is here = sym is.0 ∙ here
slot_taken false x o r one is here = absurd (clash (sym is.0 ∙ here))
  where
    clash : None ≡ Some one → ⊥
    clash e = cc

slot_left : {A : Type 0} (b : Bool) (x o r : Option A) (one : A) → SlotSplits b x o r → r ≡ Some one → x ≡ Some one
slot_left false x o r one is here = sym is.1 ∙ here
slot_left true x o r one is here = absurd (clash (sym is.1 ∙ here))
  where
    clash : None ≡ Some one → ⊥
    clash e = cc

module _ {B : Type 0} (x off rest : Members B) (needs acts : ℕ → Bool) (k m : ℕ) (are : AreMembers x)
    (off_fleet : fleet_in off ≡ fleet_in x) (off_tables : off.tables.now ≡ x.tables.now) (rest_fleet : fleet_in rest ≡ fleet_in x) (rest_tables : rest.tables.now ≡ x.tables.now)
    (rows : RowsSplit k needs (lists_in x.rows.items) (lists_in off.rows.items) (lists_in rest.rows.items)) (all_rows : length (lists_in x.rows.items) ≤ k)
    (slots : SlotsSplit m acts x.leaves.items off.leaves.items rest.leaves.items) (all_slots : m ≡ length x.leaves.items) where
  abbrev xs : List (List SeatView)
  xs = lists_in x.rows.items

  abbrev os : List (List SeatView)
  os = lists_in off.rows.items

  abbrev rs : List (List SeatView)
  rs = lists_in rest.rows.items

  abbrev count : ℕ
  count = leaf_count (fleet_in x)

  one_leaf : (leaf : ℕ) (a o r : Option (OneLeaf B)) → slice_get x.leaves.items leaf ≡ Some a → slice_get off.leaves.items leaf ≡ Some o → slice_get rest.leaves.items leaf ≡ Some r → SlotSplits (acts leaf) a o r
  one_leaf leaf a o r at there here = slots.split leaf a o r (omega (arith, slice_get_within x.leaves.items leaf a at, all_slots)) at there here

  cut_at : (leaf : ℕ) (a o r : Option (OneLeaf B)) → SlotSplits (acts leaf) a o r → CutsOffAt needs (acts leaf) (hold_at leaf x.tables.now xs a) (hold_at leaf off.tables.now os o) (hold_at leaf rest.tables.now rs r)
  cut_at leaf a o r is = record {
    tables = (ap (λ (ts : List (List Shared)). row ts leaf) off_tables, ap (λ (ts : List (List Shared)). row ts leaf) rest_tables);
    counts = (
      column_count leaf os ∙ (rows.counts.1 ∙ sym (column_count leaf xs)),
      column_count leaf rs ∙ (rows.counts.0 ∙ sym (column_count leaf xs)),
    );
    seats = callers_split k needs xs os rs rows all_rows leaf;
    held = held_split (acts leaf) a o r is;
  }

  pub cuts_off : CutsOff needs acts (holds_in x) (holds_in off) (holds_in rest)
  cuts_off = record {
    counts = (
      omega (arith, holds_count 0 off.tables.now off.leaves.items os, holds_count 0 x.tables.now x.leaves.items xs, slots.counts.1, all_slots),
      omega (arith, holds_count 0 rest.tables.now rest.leaves.items rs, holds_count 0 x.tables.now x.leaves.items xs, slots.counts.0),
    );
    each = λ leaf h o r at there here.
        let a = holds_back 0 leaf leaf x.tables.now x.leaves.items h xs (omega arith) at in
        let b = holds_back 0 leaf leaf off.tables.now off.leaves.items o os (omega arith) there in
        let c = holds_back 0 leaf leaf rest.tables.now rest.leaves.items r rs (omega arith) here in
        subst (λ (z : Hold B). CutsOffAt needs (acts leaf) z o r) (sym a.2)
        (subst (λ (z : Hold B). CutsOffAt needs (acts leaf) (hold_at leaf x.tables.now xs a.0) z r) (sym b.2)
        (subst (λ (z : Hold B). CutsOffAt needs (acts leaf) (hold_at leaf x.tables.now xs a.0) (hold_at leaf off.tables.now os b.0) z) (sym c.2)
        (cut_at leaf a.0 b.0 c.0 (one_leaf leaf a.0 b.0 c.0 a.1 b.1 c.1))));
  }

  -- ---- both are members

  row_off : (table : ℕ) (b : Bool) → RowSplits b (row xs table) (row os table) (row rs table) → (row xs table ≡ []) ⊎ (length (row xs table) ≡ count) → (row os table ≡ []) ⊎ (length (row os table) ≡ count)
  row_off table true is old = same_size count (row xs table) (row os table) is.counts.1 old
  row_off table false is old = inl is.0

  row_rest : (table : ℕ) (b : Bool) → RowSplits b (row xs table) (row os table) (row rs table) → (row xs table ≡ []) ⊎ (length (row xs table) ≡ count) → (row rs table ≡ []) ⊎ (length (row rs table) ≡ count)
  row_rest table true is old = same_size count (row xs table) (row rs table) is.counts.0 old
  row_rest table false is old = same_size count (row xs table) (row rs table) (ap (λ (vs : List SeatView). length vs) is.1) old

  -- a seat that there was
  seat_was : (leaf table : ℕ) (t : Shared) (s : SeatView) → leaf < count → slice_get (row x.tables.now leaf) table ≡ Some t → place xs table leaf ≡ Some s → IsCallersAt t s
  seat_was leaf table t s below at seat =
      let column_is = are.columns leaf below in
      column_is.called.each table t s at
      (column_get leaf xs table (omega (arith, slice_get_within (row x.tables.now leaf) table t at, column_is.sizes.count)) ∙ ap (λ (o : Option SeatView). Some o) seat)

  seat_off : (leaf table : ℕ) (b : Bool) (t : Shared) (c : SeatView) → RowSplits b (row xs table) (row os table) (row rs table) → leaf < count → slice_get (row x.tables.now leaf) table ≡ Some t → place os table leaf ≡ Some c → IsCallersAt t c
  seat_off leaf table true t c is below at seat =
      let s = element_at (row xs table) leaf (omega (arith, slice_get_within (row os table) leaf c seat, is.counts.1)) in
      let split = is.split leaf s.0 (slice_get_within (row xs table) leaf s.0 s.1) s.1 in
      subst (λ (z : SeatView). IsCallersAt t z) (same_at (row os table) leaf (given 1 s.0) c split.1 seat) (given_seat t s.0 (seat_was leaf table t s.0 below at s.1) split.0)
  seat_off leaf table false t c is below at seat = absurd (no_seat leaf (row os table) c is.0 seat)

  seat_rest : (leaf table : ℕ) (b : Bool) (t : Shared) (c : SeatView) → RowSplits b (row xs table) (row os table) (row rs table) → leaf < count → slice_get (row x.tables.now leaf) table ≡ Some t → place rs table leaf ≡ Some c → IsCallersAt t c
  seat_rest leaf table true t c is below at seat =
      let s = element_at (row xs table) leaf (omega (arith, slice_get_within (row rs table) leaf c seat, is.counts.0)) in
      let split = is.split leaf s.0 (slice_get_within (row xs table) leaf s.0 s.1) s.1 in
      subst (λ (z : SeatView). IsCallersAt t z) (same_at (row rs table) leaf (keeps_all_but 1 s.0) c split.2 seat) (kept_seat t s.0 (seat_was leaf table t s.0 below at s.1) split.0)
  seat_rest leaf table false t c is below at seat = seat_was leaf table t c below at (ap (λ (vs : List SeatView). slice_get vs leaf) (sym is.1) ∙ seat)

  members_of : (y : Members B) → fleet_in y ≡ fleet_in x → y.tables.now ≡ x.tables.now → length y.leaves.items ≡ length x.leaves.items → length (lists_in y.rows.items) ≡ length xs
      → ((table : ℕ) → (row xs table ≡ []) ⊎ (length (row xs table) ≡ count) → (row (lists_in y.rows.items) table ≡ []) ⊎ (length (row (lists_in y.rows.items) table) ≡ count))
      → ((leaf table : ℕ) (t : Shared) (c : SeatView) → leaf < count → slice_get (row x.tables.now leaf) table ≡ Some t → place (lists_in y.rows.items) table leaf ≡ Some c → IsCallersAt t c)
      → ((leaf : ℕ) (one : OneLeaf B) → slice_get y.leaves.items leaf ≡ Some (Some one) → slice_get x.leaves.items leaf ≡ Some (Some one))
      → AreMembers y
  members_of y fleet tables leaves_count rows_count rows_are seats leaves =
      let same_count : leaf_count (fleet_in y) ≡ count = ap leaf_count fleet in
      let same_names : y.names ≡ x.names = ap (λ f. f.names) fleet in
      let same_machines : y.machines ≡ x.machines = ap (λ f. f.machines) fleet in
      let same_per : y.per_machine ≡ x.per_machine = ap (λ f. f.per_machine) fleet in
      record {
        named = subst AreNames (sym same_names) are.named;
        few = subst (λ (n : ℕ). AreLeaves n y.per_machine) (sym same_machines) (subst (λ (n : ℕ). AreLeaves x.machines n) (sym same_per) are.few);
        leaves = leaves_count ∙ (are.leaves ∙ sym same_count);
        tables = ap (λ (ts : List (List Shared)). length ts) tables ∙ (are.tables ∙ sym same_count);
        rows = subst (λ (n : ℕ). AreRows n (leaf_count (fleet_in y)) (lists_in y.rows.items)) (ap (λ (ns : List (List ℕ)). length ns) (sym same_names))
            (subst (λ (n : ℕ). AreRows (length x.names) n (lists_in y.rows.items)) (sym same_count)
            (record { count = rows_count ∙ are.rows.count; each = λ table below. rows_are table (are.rows.each table below) }));
        names = λ leaf below.
            ap (λ (ts : List (List Shared)). map name_of (row ts leaf)) tables ∙ (are.names leaf (omega (arith, below, same_count)) ∙ sym same_names);
        columns = λ leaf below.
            let under : leaf < count = omega (arith, below, same_count) in
            let old = are.columns leaf under in
            subst (λ (ts : List (List Shared)). IsColumn leaf (row ts leaf) (lists_in y.rows.items)) (sym tables)
            (column_of leaf count (row x.tables.now leaf) (lists_in y.rows.items)
            (record {
              count = rows_count ∙ old.sizes.count;
              each = λ table low. rows_are table (are.rows.each table (omega (arith, low, old.sizes.count, are.rows.count)));
            }) under old.few (λ table t c at seat. seats leaf table t c under at seat));
        each = λ leaf one at.
            let was = are.each leaf one (leaves leaf one at) in
            record { names = was.names ∙ sym same_names; tables = was.tables ∙ ap (λ (ts : List (List Shared)). row ts leaf) (sym tables); seats = was.seats ∙ ap (λ (ns : List (List ℕ)). length ns) (sym same_names) };
      }

  slots_at : (leaf : ℕ) → leaf < m → (a o r : Option (OneLeaf B)) × (slice_get x.leaves.items leaf ≡ Some a) × (slice_get off.leaves.items leaf ≡ Some o) × (slice_get rest.leaves.items leaf ≡ Some r)
  slots_at leaf below =
      let a = element_at x.leaves.items leaf (omega (arith, below, all_slots)) in
      let o = element_at off.leaves.items leaf (omega (arith, below, slots.counts.1)) in
      let r = element_at rest.leaves.items leaf (omega (arith, below, slots.counts.0, all_slots)) in
      (a.0, o.0, r.0, a.1, o.1, r.1)

  pub off_members : AreMembers off
  off_members = members_of off off_fleet off_tables (slots.counts.1 ∙ all_slots) rows.counts.1
      (λ table old. row_off table (needs table) (each_row k needs xs os rs rows all_rows table) old)
      (λ leaf table t c below at seat. seat_off leaf table (needs table) t c (each_row k needs xs os rs rows all_rows table) below at seat)
      (λ leaf one at.
      let s = slots_at leaf (omega (arith, slice_get_within off.leaves.items leaf (Some one) at, slots.counts.1)) in
      let here = slot_taken (acts leaf) s.0 s.1 s.2 one (one_leaf leaf s.0 s.1 s.2 s.3 s.4 s.5) (same_at off.leaves.items leaf s.1 (Some one) s.4 at) in
      s.3 ∙ ap (λ (z : Option (OneLeaf B)). Some z) here)

  pub rest_members : AreMembers rest
  rest_members = members_of rest rest_fleet rest_tables slots.counts.0 rows.counts.0
      (λ table old. row_rest table (needs table) (each_row k needs xs os rs rows all_rows table) old)
      (λ leaf table t c below at seat. seat_rest leaf table (needs table) t c (each_row k needs xs os rs rows all_rows table) below at seat)
      (λ leaf one at.
      let s = slots_at leaf (omega (arith, slice_get_within rest.leaves.items leaf (Some one) at, slots.counts.0, all_slots)) in
      let here = slot_left (acts leaf) s.0 s.1 s.2 one (one_leaf leaf s.0 s.1 s.2 s.3 s.4 s.5) (same_at rest.leaves.items leaf s.2 (Some one) s.5 at) in
      s.3 ∙ ap (λ (z : Option (OneLeaf B)). Some z) here)

-- a row of which each seat has two ids may be split
pub may_split : {B : Type 0} (x : Members B) (table : ℕ) → AreMembers x → Spares (holds_in x) table 2 → MaySplit x.tables.now table (row (lists_in x.rows.items) table)
may_split x table are spares =
    let rows = lists_in x.rows.items in
    let size = row_size (length x.names) (leaf_count (fleet_in x)) rows table are.rows in
    record {
      few = omega (arith, size, are.few.few);
      count = omega (arith, size, are.tables);
      each = λ leaf s at.
          let found = seat_of x table leaf s are at in
          let slot = element_at x.leaves.items leaf (omega (arith, slice_get_within (row rows table) leaf s at, size, are.leaves)) in
          let two = spares leaf (hold_at leaf x.tables.now rows slot.0) s (holds_at 0 leaf leaf x.tables.now x.leaves.items slot.0 rows (omega arith) slot.1) (caller_at leaf rows table ∙ at) in
          (found.0, found.1, found.2.seat, omega (arith, two));
    }
