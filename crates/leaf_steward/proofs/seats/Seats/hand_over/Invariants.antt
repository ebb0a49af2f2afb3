use Rattle.leaf_table.specs.Calls.{SeesShut}
use Rattle.leaf_steward.specs.Making.{IsHandedNote}
use Rattle.leaf_steward.proofs.Passing.{Passed, IsNoted}
use Rattle.leaf_steward.proofs.seats.Seats.hand_over.Given as goal

-- the tables before the place were handed over
abbrev pub invariant-loop-table : goal.invariant-loop-table
invariant-loop-table g l = record {
  passed : Passed SeesShut (g.B.Berth.meaning l.berth).clock 0 l.fn.self l.table l.notes l.self;
  noted : IsNoted IsHandedNote 0 l.table l.notes;
}
