-- A caller's seat and the steward's at each leaf of a new fleet, at its one table; and that a table without a base may
-- be opened empty.
use Rattle.std.proofs.Common.{◌≡◌, ℕ, ◌<◌, false, List, [], ◌∷◌, length, Option, Some, None, refl, sym, subst, ◌∙◌, arith, Vec, Global}
use Rattle.std.specs.Prelude.{slice_get, slice_index_or}
use Rattle.std.proofs.lemmas.Option.{slice_get_within}
use Rattle.leaf_table.specs.declared.base.TableBase.{TableBase}
use Rattle.leaf_history.specs.History.{HistoryState}
use Rattle.table_state.specs.Tables.{Table, empty_table}
use Rattle.leaf_table.specs.Turns.{Shared, MayHandIn, is_founded}
use Rattle.leaf_table.specs.Calls.{SeatView, IsCaller, IsSteward, base_seen}
use Rattle.leaf_table.specs.Fleet.{IsNewFleet}
use Rattle.leaf_table.specs.Lists.{lists_in, place, row}
use Rattle.aggregator.specs.Asks.{AreSeatsAt, IsSeatAt}
use Rattle.turns_tests.specs.Stewards.{AreStewardsAt, IsStewardAt}

same_some : {A : Type 0} {x y : A} → Some x ≡ Some y → x ≡ y
same_some is = cc is

-- the first of one row
pub first_row : {A : Type 0} (rows : List (Vec A Global)) (v : Vec A Global) → length (lists_in rows) ≡ 1 → row (lists_in rows) 0 ≡ (slice_index_or rows 0 v).items
first_row [] v one = absurd (cc one)
first_row (r ∷ rows) v one = refl

-- nothing, handed in to a table without a base
pub may_open : (base : Option TableBase) (s : HistoryState) (table : Table) → base ≡ None → table ≡ empty_table → MayHandIn (is_founded base) s 0 table
may_open base s table none empty =
    subst (λ (b : Option TableBase). MayHandIn (is_founded b) s 0 table) (sym none)
    (subst (λ (t : Table). MayHandIn false s 0 t) (sym empty) (record { pending = refl; writes = refl; small = omega arith; columns = λ founded. absurd (cc founded); allowed = tt }))

module _ {base : ℕ → ℕ → Option TableBase} {names : List (List ℕ)} {tables : List (List Shared)} {stewards callers : List (List SeatView)}
    (one : length names ≡ 1) (new : IsNewFleet base 2 names 1 tables stewards callers) where
  seat_of : (leaf : ℕ) (v : SeatView) → slice_get (row callers 0) leaf ≡ Some v → IsSeatAt tables 0 leaf v
  seat_of leaf v at =
      let wide : length (row callers 0) ≡ 2 = new.in_table 0 (omega (arith, one)) in
      let below : leaf < 2 = omega (arith, slice_get_within (row callers 0) leaf v at, wide) in
      let is = new.places leaf 0 below (omega (arith, one)) in
      let caller : is.caller ≡ v = same_some (sym is.callers_seat ∙ at) in
      subst (λ (w : SeatView). IsSeatAt tables 0 leaf w) caller
      (record {
        shared = is.table;
        stands = is.stands;
        seat = is.new.seats.1;
        caller = subst IsCaller (sym is.new.unused_caller) (omega arith);
      })

  pub seats_at : AreSeatsAt tables 0 (row callers 0)
  seats_at = record {
    count = new.in_table 0 (omega (arith, one)) ∙ sym new.counts.0;
    few = omega (arith, new.counts.0);
    each = seat_of;
  }

  steward_of : ((leaf t : ℕ) → base leaf t ≡ None) → (leaf : ℕ) → leaf < length stewards → (v : SeatView) → place stewards leaf 0 ≡ Some v → IsStewardAt tables leaf v
  steward_of none leaf inside v at =
      let is = new.places leaf 0 (omega (arith, inside, new.counts.1)) (omega (arith, one)) in
      let steward : is.steward ≡ v = same_some (sym is.stewards_seat ∙ at) in
      subst (λ (w : SeatView). IsStewardAt tables leaf w) steward
      (record {
        shared = is.table;
        stands = is.stands;
        seat = is.new.seats.0;
        steward = subst IsSteward (sym is.new.unused) (refl, omega arith);
        shut = is.new.shut;
        base = is.new.founded ∙ none leaf 0;
      })

  pub stewards_at : ((leaf t : ℕ) → base leaf t ≡ None) → AreStewardsAt tables stewards
  stewards_at none = record {
    count = new.counts.0 ∙ sym new.counts.1;
    each = steward_of none;
  }
