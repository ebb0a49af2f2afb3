-- One leaf of a crew has become another.
use Rattle.std.proofs.Common.{◌≡◌, ◌≢◌, ◌⊎◌, inl, inr, ℕ, zero, suc, ◌<◌, List, [], ◌∷◌, length, map, Option, Some, None, Result, Vec, Global, refl, sym, ap, subst, ◌∙◌, arith, length-set}
use Rattle.std.specs.Prelude.{slice_get, slice_set, slice_index_or, is_some}
use Rattle.std.proofs.lemmas.Bool.{cases_eq}
use Rattle.std.proofs.lemmas.Option.{slice_get_within}
use Rattle.berth_face.specs.Berth.{Meaning, Passes}
use Rattle.leaf_history.specs.Calls.{Call}
use Rattle.leaf_table.specs.Turns.{Shared}
use Rattle.leaf_table.specs.Calls.{SeatView, name_of}
use Rattle.leaf_table.specs.Lists.{lists_in, place, row}
use Rattle.leaf_steward.proofs.Seating.{same_at, set_either, set_same, some_same}
use Rattle.printed_lines.specs.declared.line.Line.{Line}
use Rattle.script_text.specs.Commands.{leaf_count}
use Rattle.printed_lines.specs.declared.line.Deed.{Deed}
use Rattle.leaf_moves.specs.Holds.{Hold, caller_in, with_callers, with_leaf}
use Rattle.leaf_deeds.specs.declared.leaf.OneLeaf.{OneLeaf}
use Rattle.player.specs.declared.members.Members.{Members}
use Rattle.player.specs.declared.answer.DeedOutcome.{DeedOutcome}
use Rattle.script_text.specs.declared.order.TableRequest.{TableRequest}
use Rattle.player.specs.Crew.{HasLeaf, SameSeats, column}
use Rattle.player.specs.Rows.{AreCalled, AreRows, IsCallersAt, IsColumn, OnlyColumn}
use Rattle.leaf_deeds.specs.Held.{berth_of, seats_of, leaf_state}
use Rattle.player.specs.Stage.{IsMember, hold_at}
use Rattle.player.specs.Lines.{CallsWith}
use Rattle.player.specs.Members.{AreMembers, GoesWith, IsLeafOf, fleet_in, holds_from, holds_in}
use Rattle.transcript.specs.Shapes.{call_of}
use Rattle.player.specs.Commands.{ActsWith, CallsAt, DeedAt}
use Rattle.player.proofs.CallPieces.{call_prints}
use Rattle.player.proofs.Chains.{one_act, one_called}
use Rattle.player.proofs.Columns.{caller_at, column_get, element_at, only_rows, row_size, within_rows}
use Rattle.player.proofs.Calling.{stands_at}
use Rattle.player.proofs.HoldLists.{holds_at, holds_back, holds_count, holds_set, leaf_held}
use Rattle.player.proofs.NoteTables.{count_of}

-- ---- the other leaves

pub other_column : (leaf other : ℕ) (tables : List Shared) (rows rows' : List (List SeatView)) → OnlyColumn leaf rows rows' → other ≢ leaf → IsColumn other tables rows → IsColumn other tables rows'
other_column leaf other tables rows rows' only apart is = record {
  size = is.size;
  sizes = only_rows leaf (length tables) is.size rows rows' only is.sizes;
  within = is.within;
  few = is.few;
  called = subst (λ (seats : List (Option SeatView)). AreCalled (record { tables = tables; seats = seats })) (sym (only.others other apart)) is.called;
}

-- rows that are as long have a seat where the others had
some_length : {A : Type 0} (xs ys : List A) (i : ℕ) → length ys ≡ length xs → is_some (slice_get ys i) ≡ is_some (slice_get xs i)
some_length [] [] i same = refl
some_length [] (y ∷ ys) i same = absurd (omega (arith, same))
some_length (x ∷ xs) [] i same = absurd (omega (arith, same))
some_length (x ∷ xs) (y ∷ ys) zero same = refl
some_length (x ∷ xs) (y ∷ ys) (suc i) same = some_length xs ys i (omega (arith, same))

pub seats_still : (leaf : ℕ) (rows rows' : List (List SeatView)) → ((t : ℕ) → length (row rows' t) ≡ length (row rows t))
    → (table : ℕ) → is_some (caller_in (column leaf rows') table) ≡ is_some (caller_in (column leaf rows) table)
seats_still leaf rows rows' lengths table =
    ap (λ (o : Option SeatView). is_some o) (caller_at leaf rows' table)
    ∙ (some_length (row rows table) (row rows' table) leaf (lengths table) ∙ ap (λ (o : Option SeatView). is_some o) (sym (caller_at leaf rows table)))

pub seats_of_rows : {B : Type 0} (tables : List (List Shared)) (xs ys : List (Option (OneLeaf B))) (rows rows' : List (List SeatView)) → length ys ≡ length xs
    → ((t : ℕ) → length (row rows' t) ≡ length (row rows t)) → SameSeats (holds_from 0 tables xs rows) (holds_from 0 tables ys rows')
seats_of_rows {B} tables xs ys rows rows' count lengths = record {
  count = omega (arith, holds_count 0 tables ys rows', holds_count 0 tables xs rows, count);
  each = λ leaf x y at now table.
      let a = holds_back 0 leaf leaf tables xs x rows (omega arith) at in
      let b = holds_back 0 leaf leaf tables ys y rows' (omega arith) now in
      ap (λ (h : Hold B). is_some (caller_in h.callers table)) b.2
      ∙ (seats_still leaf rows rows' lengths table ∙ ap (λ (h : Hold B). is_some (caller_in h.callers table)) (sym a.2));
}

pub set_twice : {A : Type 0} (xs : List A) (i : ℕ) (x y : A) → slice_set (slice_set xs i x) i y ≡ slice_set xs i y
set_twice [] i x y = refl
set_twice (z ∷ xs) zero x y = refl
set_twice (z ∷ xs) (suc i) x y = ap (λ zs. z ∷ zs) (set_twice xs i x y)

pub none_is_not : {A : Type 0} (o : Option A) (x : A) → o ≡ None → o ≡ Some x → ⊥
none_is_not o x none some = cc

module _ {B : Type 0} where
  -- the same with these leaves and rows
  abbrev pub with_parts : Members B → Vec (Option (OneLeaf B)) Global → Vec (Vec SeatView Global) Global → Members B
  with_parts x leaves rows = record { names = x.names; machines = x.machines; per_machine = x.per_machine; tables = x.tables; leaves = leaves; rows = rows }

  -- the fleet's tables of that number are so many
  pub tables_at : (x : Members B) (number : ℕ) → AreMembers x → number < leaf_count (fleet_in x) → length (row x.tables.now number) ≡ length x.names
  tables_at x number are within = count_of (row x.tables.now number) x.names (are.names number within)

  -- a leaf that is held has its seats
  pub member_at : (x : Members B) (number : ℕ) (one : OneLeaf B) → AreMembers x → number < leaf_count (fleet_in x) → IsLeafOf x number one → IsMember x.names number (seats_of one) (lists_in x.rows.items)
  member_at x number one are within is =
      let named : map name_of (seats_of one).tables ≡ x.names = ap (λ (ts : List Shared). map name_of ts) is.tables ∙ are.names number within in
      record {
        named = are.named;
        same = is.names;
        names_are = named;
        seats = is.seats;
        may = record {
          column = subst (λ (ts : List Shared). IsColumn number ts (lists_in x.rows.items)) (sym is.tables) (are.columns number within);
          seats = is.seats ∙ sym (count_of (seats_of one).tables x.names named);
        };
      }

  -- what stands in the slot of a leaf that is held
  pub slot_held : (x : Members B) (number : ℕ) (slot : Option (OneLeaf B)) → AreMembers x → number < leaf_count (fleet_in x) → HasLeaf (holds_in x) number → slot ≡ slice_index_or x.leaves.items number slot
      → (one : OneLeaf B) × (slot ≡ Some one)
  slot_held x number slot are within has read =
      let low : number < length x.leaves.items = omega (arith, within, are.leaves) in
      let one = leaf_held x.tables.now x.leaves.items (lists_in x.rows.items) number has low in
      (one.0, same_at x.leaves.items number slot (Some one.0) (stands_at x.leaves.items number slot low read) one.1)

  pub slot_at : (x : Members B) (number : ℕ) (slot : Option (OneLeaf B)) (one : OneLeaf B) → AreMembers x → number < leaf_count (fleet_in x) → slot ≡ slice_index_or x.leaves.items number slot → slot ≡ Some one
      → slice_get x.leaves.items number ≡ Some (Some one)
  slot_at x number slot one are within read is =
      stands_at x.leaves.items number slot (omega (arith, within, are.leaves)) read ∙ ap (λ (o : Option (OneLeaf B)). Some o) is

  -- one column has become another
  columns_then : (x : Members B) (number : ℕ) (rows : List (List SeatView)) → AreMembers x → OnlyColumn number (lists_in x.rows.items) rows → IsColumn number (row x.tables.now number) rows
      → (leaf : ℕ) → leaf < leaf_count (fleet_in x) → IsColumn leaf (row x.tables.now leaf) rows
  columns_then x number rows are only column leaf below = by (cases_eq leaf number)
    where
      by : (leaf ≡ number) ⊎ (leaf ≢ number) → IsColumn leaf (row x.tables.now leaf) rows
      by (inl same) = subst (λ (n : ℕ). IsColumn n (row x.tables.now n) rows) (sym same) column
      by (inr apart) = other_column number leaf (row x.tables.now leaf) (lists_in x.rows.items) rows only apart (are.columns leaf below)

  -- the callers' seats have become others
  pub with_rows : (x : Members B) (rows : Vec (Vec SeatView Global) Global) → AreMembers x → AreRows (length x.names) (leaf_count (fleet_in x)) (lists_in rows.items)
      → ((leaf : ℕ) → leaf < leaf_count (fleet_in x) → IsColumn leaf (row x.tables.now leaf) (lists_in rows.items)) → AreMembers (with_parts x x.leaves rows)
  with_rows x rows are sizes columns = record {
    named = are.named;
    few = are.few;
    leaves = are.leaves;
    tables = are.tables;
    rows = sizes;
    names = are.names;
    columns = columns;
    each = λ leaf z at. let was = are.each leaf z at in record { names = was.names; tables = was.tables; seats = was.seats };
  }

  -- a leaf and its column have
  pub members_with : (x : Members B) (number : ℕ) (next : OneLeaf B) (leaves : Vec (Option (OneLeaf B)) Global) (rows : Vec (Vec SeatView Global) Global) → AreMembers x → leaves.items ≡ slice_set x.leaves.items number (Some next)
      → OnlyColumn number (lists_in x.rows.items) (lists_in rows.items) → IsColumn number (row x.tables.now number) (lists_in rows.items) → IsLeafOf x number next → AreMembers (with_parts x leaves rows)
  members_with x number next leaves rows are now only column own = record {
    named = are.named;
    few = are.few;
    leaves = ap (λ (ls : List (Option (OneLeaf B))). length ls) now ∙ length-set x.leaves.items number (Some next) ∙ are.leaves;
    tables = are.tables;
    rows = only_rows number (length x.names) (leaf_count (fleet_in x)) (lists_in x.rows.items) (lists_in rows.items) only are.rows;
    names = are.names;
    columns = columns_then x number (lists_in rows.items) are only column;
    each = λ leaf z there. by leaf z (set_either x.leaves.items number leaf (Some next) (Some z) (subst (λ (ls : List (Option (OneLeaf B))). slice_get ls leaf ≡ Some (Some z)) now there));
  }
    where
      by : (leaf : ℕ) (z : OneLeaf B) → ((leaf ≡ number) × (Some z ≡ Some next)) ⊎ ((leaf ≢ number) × (slice_get x.leaves.items leaf ≡ Some (Some z))) → IsLeafOf (with_parts x leaves rows) leaf z
      by leaf z (inl h) =
          subst (λ (n : ℕ). IsLeafOf (with_parts x leaves rows) n z) (sym h.0)
          (subst (λ (y : OneLeaf B). IsLeafOf (with_parts x leaves rows) number y) (sym (some_same z next h.1)) (record { names = own.names; tables = own.tables; seats = own.seats }))
      by leaf z (inr h) = let was = are.each leaf z h.1 in record { names = was.names; tables = was.tables; seats = was.seats }

  -- a seat of the rows is a callers' seat at its table
  pub seat_of : (x : Members B) (table leaf : ℕ) (s : SeatView) → AreMembers x → place (lists_in x.rows.items) table leaf ≡ Some s → (t : Shared) × (place x.tables.now leaf table ≡ Some t) × IsCallersAt t s
  seat_of x table leaf s are at =
      let rows = lists_in x.rows.items in
      let size = row_size (length x.names) (leaf_count (fleet_in x)) rows table are.rows in
      let below : leaf < leaf_count (fleet_in x) = omega (arith, slice_get_within (row rows table) leaf s at, size) in
      let column_is = are.columns leaf below in
      let low = within_rows rows table leaf s at in
      let t = element_at (row x.tables.now leaf) table (omega (arith, low, column_is.sizes.count)) in
      (t.0, t.1, column_is.called.each table t.0 s t.1 (column_get leaf rows table low ∙ ap (λ (o : Option SeatView). Some o) at))

  module _ (x : Members B) (number : ℕ) (one next : OneLeaf B) (leaves : Vec (Option (OneLeaf B)) Global) (rows : Vec (Vec SeatView Global) Global) (are : AreMembers x)
      (at : slice_get x.leaves.items number ≡ Some (Some one)) (now : leaves.items ≡ slice_set x.leaves.items number (Some next))
      (only : OnlyColumn number (lists_in x.rows.items) (lists_in rows.items)) where
    -- they are members still
    pub members_then : IsMember x.names number (seats_of next) (lists_in rows.items) → (seats_of next).tables ≡ (seats_of one).tables → AreMembers (with_parts x leaves rows)
    members_then member same =
        let tables : (seats_of next).tables ≡ row x.tables.now number = same ∙ (are.each number one at).tables in
        members_with x number next leaves rows are now only (subst (λ (ts : List Shared). IsColumn number ts (lists_in rows.items)) tables member.may.column)
        (record { names = member.same; tables = tables; seats = member.seats })

    pub holds_then : holds_in (with_parts x leaves rows)
        ≡ slice_set (holds_in x) number (with_leaf (hold_at number x.tables.now (lists_in x.rows.items) (Some one)) (leaf_state next) (berth_of next) (column number (lists_in rows.items)))
    holds_then =
        ap (λ (ls : List (Option (OneLeaf B))). holds_from 0 x.tables.now ls (lists_in rows.items)) now
        ∙ holds_set 0 number number x.tables.now x.leaves.items (Some next) (lists_in x.rows.items) (lists_in rows.items) (omega arith) only.others

    -- a deed of that leaf
    pub deed_at : {E : Type 0} (meaning : B → Meaning) (deed : Deed) (answer : DeedOutcome) (result : Result (Vec Line Global) E)
        → ActsWith meaning x.names number deed (leaf_state one) (column number (lists_in x.rows.items)) (berth_of one) answer result (leaf_state next) (column number (lists_in rows.items)) (berth_of next)
        → Passes (meaning (berth_of one)) (meaning (berth_of next)) → DeedAt meaning number deed x answer result (with_parts x leaves rows)
    deed_at meaning deed answer result acts time = record {
      piece = acts.piece;
      prints = (acts.step.notes, acts.step.ends, acts.step.piece_is);
      answered = acts.answered;
      goes = one_act meaning x.names (holds_in x) (holds_in (with_parts x leaves rows)) number deed (hold_at number x.tables.now (lists_in x.rows.items) (Some one))
          (leaf_state one) (leaf_state next) (berth_of one) (berth_of next) (column number (lists_in rows.items)) answer result
          (holds_at 0 number number x.tables.now x.leaves.items (Some one) (lists_in x.rows.items) (omega arith) at) refl holds_then
          (seats_still number (lists_in x.rows.items) (lists_in rows.items) only.lengths) acts time;
    }

  -- a call of a leaf's table
  module _ (x : Members B) (number : ℕ) (rows : Vec (Vec SeatView Global) Global) (are : AreMembers x) (within : number < leaf_count (fleet_in x))
      (only : OnlyColumn number (lists_in x.rows.items) (lists_in rows.items)) where
    there : (o : Option (OneLeaf B)) × (slice_get x.leaves.items number ≡ Some o)
    there = element_at x.leaves.items number (omega (arith, within, are.leaves))

    called_then : holds_in (with_parts x x.leaves rows) ≡ slice_set (holds_in x) number (with_callers (hold_at number x.tables.now (lists_in x.rows.items) there.0) (column number (lists_in rows.items)))
    called_then =
        ap (λ (ls : List (Option (OneLeaf B))). holds_from 0 x.tables.now ls (lists_in rows.items)) (sym (set_same x.leaves.items number there.0 there.1))
        ∙ holds_set 0 number number x.tables.now x.leaves.items there.0 (lists_in x.rows.items) (lists_in rows.items) (omega arith) only.others

    pub members_called : IsColumn number (row x.tables.now number) (lists_in rows.items) → AreMembers (with_parts x x.leaves rows)
    members_called column =
        with_rows x rows are (only_rows number (length x.names) (leaf_count (fleet_in x)) (lists_in x.rows.items) (lists_in rows.items) only are.rows) (columns_then x number (lists_in rows.items) are only column)

    pub goes_called : {E : Type 0} (meaning : B → Meaning) (table : ℕ) (c : Call) (result : Result (Vec Line Global) E)
        → (calls : CallsWith x.names number table c (row x.tables.now number) (column number (lists_in x.rows.items)) result (column number (lists_in rows.items)))
        → GoesWith meaning x.names (holds_in x) result (calls.piece ∷ []) (holds_in (with_parts x x.leaves rows))
    goes_called meaning table c result calls =
        one_called meaning x.names (holds_in x) (holds_in (with_parts x x.leaves rows)) number table c (hold_at number x.tables.now (lists_in x.rows.items) there.0) (column number (lists_in rows.items)) result
        (holds_at 0 number number x.tables.now x.leaves.items there.0 (lists_in x.rows.items) (omega arith) there.1) called_then
        (seats_still number (lists_in x.rows.items) (lists_in rows.items) only.lengths) calls

    pub calls_at : {E : Type 0} (meaning : B → Meaning) (table : ℕ) (r : TableRequest) (result : Result (Vec Line Global) E)
        → CallsWith x.names number table (call_of r) (row x.tables.now number) (column number (lists_in x.rows.items)) result (column number (lists_in rows.items))
        → CallsAt meaning number table r x result (with_parts x x.leaves rows)
    calls_at meaning table r result calls = record {
      piece = calls.piece;
      prints = call_prints number table (call_of r) calls.step.reply calls.piece calls.step.says;
      goes = goes_called meaning table (call_of r) result calls;
    }
