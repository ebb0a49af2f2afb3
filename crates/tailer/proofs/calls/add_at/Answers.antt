use Rattle.std.specs.Prelude.{slice_index_or, slice_set}
use Rattle.leaf_history.specs.Calls as call
use Rattle.tailer.proofs.Calling.{called, still_seats, table_low, there}
use Rattle.tailer.proofs.calls.add_at.Goals as goal

pub bounds-tables-tail : goal.bounds-tables-tail
bounds-tables-tail g c =
    let tail = c.args.tail.now in
    table_low tail.fleet.now tail.table c.args.leaf c.args.seats.now c.leaf-tables.result.now c.requires.seats c.requires.leaf c.leaf-tables.ensures

pub add_copy-requires-clause-seat : goal.add_copy-requires-clause-seat
add_copy-requires-clause-seat g c = λ κs within.
    let tail = c.args.tail.now in
    (there tail.fleet.now tail.table c.args.leaf c.args.seats.now c.leaf-tables.result.now c.index-tables-tail.result c.index-seats-leaf.result
    c.requires.seats c.requires.leaf c.leaf-tables.ensures c.index-tables-tail.is).seat

pub add_copy-requires-clause-caller : goal.add_copy-requires-clause-caller
add_copy-requires-clause-caller g c = λ κs within.
    let tail = c.args.tail.now in
    (there tail.fleet.now tail.table c.args.leaf c.args.seats.now c.leaf-tables.result.now c.index-tables-tail.result c.index-seats-leaf.result
    c.requires.seats c.requires.leaf c.leaf-tables.ensures c.index-tables-tail.is).caller

pub returns-clause-call : goal.returns-clause-call
returns-clause-call g c =
    let tail = c.args.tail.now in
    let seat = slice_index_or c.args.seats.now c.args.leaf c.index-seats-leaf.result in
    let at = there tail.fleet.now tail.table c.args.leaf c.args.seats.now c.leaf-tables.result.now c.index-tables-tail.result c.index-seats-leaf.result
    c.requires.seats c.requires.leaf c.leaf-tables.ensures c.index-tables-tail.is in
    called tail.fleet.now tail.table c.args.leaf c.args.seats.now c.index-tables-tail.result seat c.add_copy.new.seat (call.Add tail.rows.now) c.add_copy.result at
    c.add_copy.ensures.made c.add_copy.ensures.seat c.add_copy.ensures.same

pub returns-clause-seats : goal.returns-clause-seats
returns-clause-seats g c =
    let tail = c.args.tail.now in
    still_seats tail.fleet.now tail.table c.args.seats.now (slice_set c.args.seats.now c.args.leaf c.add_copy.new.seat) (record { leaf = c.args.leaf; call = call.Add tail.rows.now; reply = c.add_copy.result }) c.requires.seats (returns-clause-call g c)
