use Rattle.std.proofs.Common.{refl, arith}
use Rattle.leaf_table.specs.Calls.{SeesShut}
use Rattle.leaf_steward.specs.Making.{IsHandedNote}
use Rattle.leaf_steward.proofs.Passing.{passed_none, passed_more, noted_none, noted_more, notes_fit}
use Rattle.leaf_steward.proofs.seats.Seats.hand_over.Goals as goal

pub loop-table-init : goal.loop-table-init
loop-table-init g c = record {
  passed = passed_none SeesShut _ 0 c.args.self.now c.args.notes.now c.requires.none;
  noted = noted_none IsHandedNote 0 c.args.notes.now c.requires.none;
}

pub hand-requires-clause-room : goal.hand-requires-clause-room
hand-requires-clause-room g c κs within = notes_fit IsHandedNote 0 c.loop-table.table c.loop-table.notes c.loop-table.invariant.noted (omega arith)

pub loop-table-preserved : goal.loop-table-preserved
loop-table-preserved g c =
    let entry = c.hand.ensures.entry in record {
      passed = passed_more SeesShut _ 0 c.args.self.now c.loop-table.table _ c.loop-table.notes c.hand.new.notes c.loop-table.self c.hand.new.self _ c.loop-table.invariant.passed (omega arith) refl refl entry.1 c.hand.ensures.shut entry.2;
      noted = noted_more IsHandedNote 0 c.loop-table.table _ c.loop-table.notes c.hand.new.notes _ c.loop-table.invariant.noted refl refl tt entry.2;
    }
