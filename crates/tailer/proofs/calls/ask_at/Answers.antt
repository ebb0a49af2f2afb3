use Rattle.std.proofs.Common.{subst}
use Rattle.std.specs.Prelude.{slice_index_or, slice_set}
use Rattle.leaf_model.specs.declared.queries.Query.{Query}
use Rattle.leaf_history.specs.Calls as call
use Rattle.leaf_table.specs.Calls.{Answered, base_seen}
use Rattle.tail_picks.specs.Room.{every_row}
use Rattle.tailer.specs.Calls.{asking}
use Rattle.tailer.proofs.Calling.{called, still_seats, table_low, there}
use Rattle.tailer.proofs.calls.ask_at.Goals as goal

pub bounds-tables-tail : goal.bounds-tables-tail
bounds-tables-tail g c =
    let tail = c.args.tail.now in
    table_low tail.fleet.now tail.table c.args.leaf c.args.seats.now c.leaf-tables.result.now c.requires.seats c.requires.leaf c.leaf-tables.ensures

pub ask-requires-clause-seat : goal.ask-requires-clause-seat
ask-requires-clause-seat g c = λ κs within.
    let tail = c.args.tail.now in
    (there tail.fleet.now tail.table c.args.leaf c.args.seats.now c.leaf-tables.result.now c.index-tables-tail.result c.index-seats-leaf.result
    c.requires.seats c.requires.leaf c.leaf-tables.ensures c.index-tables-tail.is).seat

pub ask-requires-clause-caller : goal.ask-requires-clause-caller
ask-requires-clause-caller g c = λ κs within.
    let tail = c.args.tail.now in
    (there tail.fleet.now tail.table c.args.leaf c.args.seats.now c.leaf-tables.result.now c.index-tables-tail.result c.index-seats-leaf.result
    c.requires.seats c.requires.leaf c.leaf-tables.ensures c.index-tables-tail.is).caller

pub returns-clause-call : goal.returns-clause-call
returns-clause-call g c =
    let tail = c.args.tail.now in
    let seat = slice_index_or c.args.seats.now c.args.leaf c.index-seats-leaf.result in
    let at = there tail.fleet.now tail.table c.args.leaf c.args.seats.now c.leaf-tables.result.now c.index-tables-tail.result c.index-seats-leaf.result
    c.requires.seats c.requires.leaf c.leaf-tables.ensures c.index-tables-tail.is in
    called tail.fleet.now tail.table c.args.leaf c.args.seats.now c.index-tables-tail.result seat c.ask.new.seat (call.Ask every_row) c.ask.result at
    (subst (λ (q : Query). Answered (base_seen c.index-tables-tail.result) seat (call.Ask q) c.ask.result c.ask.new.seat) c.requires.query c.ask.ensures.made) c.ask.ensures.seat c.ask.ensures.same

pub returns-clause-seats : goal.returns-clause-seats
returns-clause-seats g c =
    let tail = c.args.tail.now in
    still_seats tail.fleet.now tail.table c.args.seats.now (slice_set c.args.seats.now c.args.leaf c.ask.new.seat) (asking c.args.leaf c.ask.result) c.requires.seats (returns-clause-call g c)
