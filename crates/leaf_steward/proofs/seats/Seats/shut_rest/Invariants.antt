use Rattle.leaf_table.specs.Calls.{SeesShut}
use Rattle.leaf_steward.specs.Making.{IsClosedNote}
use Rattle.leaf_steward.proofs.Passing.{Passed, IsNoted}
use Rattle.leaf_steward.proofs.seats.Seats.shut_rest.Given as goal

-- the tables before the place were shut
abbrev pub invariant-loop-table : goal.invariant-loop-table
invariant-loop-table g l = record {
  passed : Passed SeesShut (g.B.Berth.meaning l.berth).clock l.first l.fn.self l.table l.notes l.self;
  noted : IsNoted IsClosedNote l.first l.table l.notes;
}
