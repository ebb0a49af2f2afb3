use Rattle.std.proofs.Common.{List, Option, sym, subst}
use Rattle.leaf_table.specs.Calls.{SeatView}
use Rattle.leaf_table.specs.Lists.{lists_in}
use Rattle.player.specs.Commands.{call_in}
use Rattle.player.specs.Rows.{SeatRow, CallsTable, called_at}
use Rattle.player.proofs.Calling.{called_on, calls, is_called, stands_at}
use Rattle.player.proofs.SeatRows.{RowRead, column_then, is_then, only_then, there, row_wide}
use Rattle.player.proofs.call.call_one.Goals as goal

pub index_mut-seat-requires : goal.index_mut-seat-requires
index_mut-seat-requires g c =
    let row : RowRead c.args.leaf c.args.tables.now c.args.rows.now.items c.args.table c.index_mut-row.result.now =
    record { is = c.requires.column; within = c.requires.table; has = c.requires.has; read = c.index_mut-row.ensures.value } in
    row_wide row

pub call_by-requires-clause-seat : goal.call_by-requires-clause-seat
call_by-requires-clause-seat g c = λ κs bounds.
    let row : RowRead c.args.leaf c.args.tables.now c.args.rows.now.items c.args.table c.index_mut-row.result.now =
    record { is = c.requires.column; within = c.requires.table; has = c.requires.has; read = c.index_mut-row.ensures.value } in
    let x : SeatRow = called_at c.args.leaf c.args.tables.now (lists_in c.args.rows.now.items) in
    let seat = c.index_mut-seat.result.now in
    let shared = c.index-tables-table.result in
    is_called x c.args.table shared seat c.requires.column.called (stands_at c.args.tables.now c.args.table shared c.requires.table c.index-tables-table.is) (there row seat c.index_mut-seat.ensures.value)

pub returns : goal.returns
returns g c =
    let row : RowRead c.args.leaf c.args.tables.now c.args.rows.now.items c.args.table c.index_mut-row.result.now =
    record { is = c.requires.column; within = c.requires.table; has = c.requires.has; read = c.index_mut-row.ensures.value } in
    let x : SeatRow = called_at c.args.leaf c.args.tables.now (lists_in c.args.rows.now.items) in
    let seat = c.index_mut-seat.result.now in
    let shared = c.index-tables-table.result in
    let at = stands_at c.args.tables.now c.args.table shared c.requires.table c.index-tables-table.is in
    let was = there row seat c.index_mut-seat.ensures.value in
    let then = c.call_by.new.seat in
    let made = c.call_by.ensures in
    record {
      calls = subst (λ (seats : List (Option SeatView)). CallsTable c.args.table (call_in c.args.call) x c.call_by.result (record { tables = c.args.tables.now; seats = seats })) (sym (column_then row then))
          (calls x c.args.table shared seat c.requires.column.called at was (call_in c.args.call) c.call_by.result then made.made);
      column = is_then row then (called_on x c.args.table shared seat c.requires.column.called at was (call_in c.args.call) c.call_by.result then made.seat made.same made.made);
      only = only_then row then;
    }
