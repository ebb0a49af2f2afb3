use Rattle.std.proofs.Common.{refl, arith}
use Rattle.leaf_table.specs.Calls.{SeesShut}
use Rattle.leaf_steward.specs.Making.{IsClosedNote}
use Rattle.leaf_steward.proofs.Passing.{passed_none, passed_more, passed_all, noted_none, noted_more, notes_fit, shut_entry, shut_there}
use Rattle.leaf_steward.proofs.seats.Seats.shut_rest.Goals as goal

pub loop-table-init : goal.loop-table-init
loop-table-init g c = record {
  passed = passed_none SeesShut _ c.args.first c.args.self.now c.args.notes.now c.requires.none;
  noted = noted_none IsClosedNote c.args.first c.args.notes.now c.requires.none;
}

pub shut-requires-clause-room : goal.shut-requires-clause-room
shut-requires-clause-room g c κs within = notes_fit IsClosedNote c.args.first c.loop-table.table c.loop-table.notes c.loop-table.invariant.noted (omega arith)

pub loop-table-preserved : goal.loop-table-preserved
loop-table-preserved g c =
    let shut = c.shut.ensures in
    let from = c.loop-table.auto.table in
    let one = shut_entry _ c.loop-table.self c.loop-table.table shut.0 c.shut.result.writes c.shut.result c.shut.new.self shut.1 in
    let there = shut_there _ c.loop-table.self c.loop-table.table shut.0 c.shut.result.writes c.shut.result c.shut.new.self shut.1 in record {
      passed = passed_more SeesShut _ c.args.first c.args.self.now c.loop-table.table _ c.loop-table.notes c.shut.new.notes c.loop-table.self c.shut.new.self _ c.loop-table.invariant.passed from refl refl one there shut.2;
      noted = noted_more IsClosedNote c.args.first c.loop-table.table _ c.loop-table.notes c.shut.new.notes _ c.loop-table.invariant.noted refl refl tt shut.2;
    }

pub returns-clause-shut : goal.returns-clause-shut
returns-clause-shut g c = passed_all SeesShut _ c.args.first c.args.self.now c.loop-table.table c.loop-table.notes c.loop-table.self c.loop-table.invariant.passed (omega arith)
