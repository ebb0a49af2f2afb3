use Rattle.std.proofs.Common.{◌≡◌, drop, length, map, take, ◌≤◌}
use Rattle.std.specs.VecDeque.{deque_len}
use Rattle.table_state.specs.Tables.{Table, bare, columns_most}
use Rattle.leaf_steward.specs.Making.{OpenedNotes}
use Rattle.leaf_steward.proofs.Passing.{Passed, IsRunning}
use Rattle.leaf_steward.proofs.seats.Seats.open_all.Given as goal

-- the tables before the place were opened
abbrev pub invariant-loop-content : goal.invariant-loop-content
invariant-loop-content g l = record {
  within : l.table ≤ length l.fn.tables.each;
  rest : map bare l.rest.items ≡ drop l.table l.fn.tables.each;
  columns : map (λ (t : Table). columns_most t.store) l.rest.items ≡ drop l.table l.fn.tables.columns;
  passed : Passed IsRunning (g.B.Berth.meaning l.berth).clock 0 l.fn.self l.table l.notes l.self;
  noted : OpenedNotes 0 (take l.table l.fn.tables.each) l.notes;
}

abbrev pub decreases-loop-content : goal.decreases-loop-content
decreases-loop-content g l = deque_len l.rest
