use Rattle.std.proofs.Common.{◌≡◌, ◌+◌, ◌≤◌, ℕ, Bool, true, List, map, slice_get, Some, [], refl, ap, subst, arith, rules}
use Rattle.std.proofs.lemmas.Grind.{common_steps}
use Rattle.std.proofs.lemmas.List.{take_all}
use Rattle.leaf_history.specs.History.{HistoryState, first_writes}
use Rattle.table_state.specs.Tables.{Table, added_count, bare, columns_most}
use Rattle.leaf_table.specs.Turns.{is_founded, HasFewColumns, MayHandIn}
use Rattle.leaf_table.specs.Calls.{base_seen, state_seen}
use Rattle.leaf_steward.specs.Making.{OpenedNotes}
use Rattle.leaf_steward.proofs.Seating.{few_tables}
use Rattle.leaf_steward.proofs.Passing.{IsRunning, passed_none, passed_more, passed_all, still, opened_more, opened_fit, pop_next, none_left}
use Rattle.leaf_steward.proofs.seats.Seats.open_all.Goals as goal

-- how many columns its rows come to at most
abbrev columns_of : Table → ℕ
columns_of t = columns_most t.store

-- what may be handed in hangs on how its rows stand by their columns alone
handed_bare : (founded : Bool) (s : HistoryState) (t : Table) → MayHandIn founded s t.writes (bare t) → HasFewColumns founded s.spare (first_writes s t.writes) t → MayHandIn founded s t.writes t
handed_bare founded s t may columns = record { pending = may.pending; writes = may.writes; small = may.small; columns = columns; allowed = may.allowed }

pub loop-content-init : goal.loop-content-init
loop-content-init g c = record {
  within = omega arith;
  rest = grind (arith, common_steps);
  columns = grind (arith, common_steps);
  passed = passed_none IsRunning _ 0 c.args.self.now c.args.notes.now c.requires.none;
  noted = c.requires.none;
}

pub open-requires-clause-content : goal.open-requires-clause-content
open-requires-clause-content g c κs within =
    let next = pop_next c.args.tables.each (map bare c.loop-content.rest.items) (map bare c.pop_front.new.self.items) c.loop-content.table (bare c.in-Some.content) c.loop-content.invariant.rest (ap (map bare) c.in-Some.ensures.items) in
    let counted = pop_next c.args.tables.columns (map columns_of c.loop-content.rest.items) (map columns_of c.pop_front.new.self.items) c.loop-content.table (columns_of c.in-Some.content) c.loop-content.invariant.columns (ap (map columns_of) c.in-Some.ensures.items) in
    λ t v at seat. handed_bare _ _ c.in-Some.content (still IsRunning (λ p t v. (table : Table) → slice_get c.args.tables.each p ≡ Some table → MayHandIn (is_founded (base_seen t)) (state_seen (base_seen t) v) table.writes table)
    _ 0 c.args.self.now c.loop-content.table c.loop-content.notes c.loop-content.self c.loop-content.invariant.passed (λ p t v at seat table is. c.requires.content p t v table at seat is) t v at seat (bare c.in-Some.content) next.at)
    (still IsRunning (λ p t v. (table : Table) (n : ℕ) → slice_get c.args.tables.each p ≡ Some table → slice_get c.args.tables.columns p ≡ Some n → is_founded (base_seen t) ≡ true → n ≤ (state_seen (base_seen t) v).spare + added_count (first_writes (state_seen (base_seen t) v) table.writes))
    _ 0 c.args.self.now c.loop-content.table c.loop-content.notes c.loop-content.self c.loop-content.invariant.passed (λ p t v at seat table n is. c.requires.columns p t v table n at seat is) t v at seat (bare c.in-Some.content) (columns_of c.in-Some.content) next.at counted.at)

pub open-requires-clause-room : goal.open-requires-clause-room
open-requires-clause-room g c κs within =
    let few = few_tables c.sits.ensures in
    opened_fit c.args.tables.each c.loop-content.table c.loop-content.notes c.loop-content.invariant.noted (omega (arith, few))

pub overflow_add-table : goal.overflow_add-table
overflow_add-table g c = omega (arith, few_tables c.sits.ensures)

pub loop-content-preserved : goal.loop-content-preserved
loop-content-preserved g c =
    let next = pop_next c.args.tables.each (map bare c.loop-content.rest.items) (map bare c.pop_front.new.self.items) c.loop-content.table (bare c.in-Some.content) c.loop-content.invariant.rest (ap (map bare) c.in-Some.ensures.items) in
    let counted = pop_next c.args.tables.columns (map columns_of c.loop-content.rest.items) (map columns_of c.pop_front.new.self.items) c.loop-content.table (columns_of c.in-Some.content) c.loop-content.invariant.columns (ap (map columns_of) c.in-Some.ensures.items) in
    let entry = c.open.ensures.entry in record {
      within = omega (arith, next.within);
      rest = next.left;
      columns = counted.left;
      passed = passed_more IsRunning _ 0 c.args.self.now c.loop-content.table _ c.loop-content.notes c.open.new.notes c.loop-content.self c.open.new.self _ c.loop-content.invariant.passed (omega arith) refl refl entry.1
          (λ t v at seat. (c.open.ensures.open_ t v at seat, c.open.ensures.spares t v at seat)) entry.2;
      noted = opened_more c.args.tables.each c.loop-content.table (bare c.in-Some.content) c.loop-content.notes c.open.new.notes _ c.loop-content.invariant.noted next.within next.taken refl refl entry.2;
    }

pub returns-clause-each : goal.returns-clause-each
returns-clause-each g c =
    let empty : c.loop-content.rest.items ≡ [] = search rules in
    let none = none_left c.args.tables.each (map bare c.loop-content.rest.items) c.loop-content.table c.loop-content.invariant.rest (ap (map bare) empty) in
    subst (λ (l : List Table). OpenedNotes 0 l c.loop-content.notes) (take_all c.loop-content.table c.args.tables.each none) c.loop-content.invariant.noted

pub returns-clause-open_ : goal.returns-clause-open_
returns-clause-open_ g c =
    let empty : c.loop-content.rest.items ≡ [] = search rules in
    let none = none_left c.args.tables.each (map bare c.loop-content.rest.items) c.loop-content.table c.loop-content.invariant.rest (ap (map bare) empty) in
    λ p t v at seat. (passed_all IsRunning _ 0 c.args.self.now c.loop-content.table c.loop-content.notes c.loop-content.self c.loop-content.invariant.passed (omega arith) p t v at seat (omega arith)).0

pub returns-clause-spares : goal.returns-clause-spares
returns-clause-spares g c =
    let empty : c.loop-content.rest.items ≡ [] = search rules in
    let none = none_left c.args.tables.each (map bare c.loop-content.rest.items) c.loop-content.table c.loop-content.invariant.rest (ap (map bare) empty) in
    λ p t v at seat. (passed_all IsRunning _ 0 c.args.self.now c.loop-content.table c.loop-content.notes c.loop-content.self c.loop-content.invariant.passed (omega arith) p t v at seat (omega arith)).1
