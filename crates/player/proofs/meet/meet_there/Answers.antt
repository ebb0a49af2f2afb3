use Rattle.std.proofs.Common.{List, Option, sym, subst}
use Rattle.leaf_table.specs.Calls.{SeatView}
use Rattle.leaf_table.specs.Lists.{lists_in}
use Rattle.player.specs.Crew.{column}
use Rattle.player.specs.Meeting.{MeetsAt}
use Rattle.leaf_deeds.specs.Held.{seats_of, leaf_state}
use Rattle.player.proofs.Calling.{called_met, meets_at, meets_legal}
use Rattle.player.proofs.MetFirst.{meets_keep}
use Rattle.player.proofs.SeatRows.{column_then, is_then, may_keep, only_then, row_met, row_wide, there}
use Rattle.player.proofs.meet.meet_there.Goals as goal

pub index_mut-seat-requires : goal.index_mut-seat-requires
index_mut-seat-requires g c =
    let row = row_met c.args.number (seats_of c.args.leaf.now) c.args.rows.now.items c.args.table c.index_mut-row.result.now c.requires.may c.requires.table c.requires.has c.index_mut-row.ensures.value in
    row_wide row

pub meet-requires-clause-seat : goal.meet-requires-clause-seat
meet-requires-clause-seat g c κs bounds =
    let row = row_met c.args.number (seats_of c.args.leaf.now) c.args.rows.now.items c.args.table c.index_mut-row.result.now c.requires.may c.requires.table c.requires.has c.index_mut-row.ensures.value in
    let callers = column c.args.number (lists_in c.args.rows.now.items) in
    let seat = c.index_mut-seat.result.now in
    meets_legal (seats_of c.args.leaf.now) callers c.args.table seat c.requires.may.column.called (there row seat c.index_mut-seat.ensures.value)

pub returns-clause-met : goal.returns-clause-met
returns-clause-met g c =
    let row = row_met c.args.number (seats_of c.args.leaf.now) c.args.rows.now.items c.args.table c.index_mut-row.result.now c.requires.may c.requires.table c.requires.has c.index_mut-row.ensures.value in
    let callers = column c.args.number (lists_in c.args.rows.now.items) in
    let seat = c.index_mut-seat.result.now in
    subst (λ (seats : List (Option SeatView)). MeetsAt c.args.table (leaf_state c.args.leaf.now) callers (leaf_state c.meet.new.self) seats) (sym (column_then row c.meet.new.seat))
    (meets_at callers (leaf_state c.args.leaf.now) c.args.table seat c.meet.new.seat c.requires.may.column.called c.requires.may.seats row.within (there row seat c.index_mut-seat.ensures.value) c.meet.ensures.seat
    (leaf_state c.meet.new.self) c.seen-number.ensures.ids c.meet.ensures.learns)

pub returns-clause-may : goal.returns-clause-may
returns-clause-may g c =
    let row = row_met c.args.number (seats_of c.args.leaf.now) c.args.rows.now.items c.args.table c.index_mut-row.result.now c.requires.may c.requires.table c.requires.has c.index_mut-row.ensures.value in
    let callers = column c.args.number (lists_in c.args.rows.now.items) in
    let seat = c.index_mut-seat.result.now in
    let met = called_met callers (leaf_state c.args.leaf.now) c.args.table seat c.meet.new.seat c.requires.may.column.called c.requires.may.seats row.within (there row seat c.index_mut-seat.ensures.value) c.meet.ensures.seat in
    may_keep c.args.number (seats_of c.args.leaf.now) (seats_of c.meet.new.self) _
    (meets_keep c.args.table (leaf_state c.args.leaf.now) callers (leaf_state c.meet.new.self) _ (returns-clause-met g c))
    (record { column = is_then row c.meet.new.seat met; seats = c.requires.may.seats })

pub returns-clause-only : goal.returns-clause-only
returns-clause-only g c =
    let row = row_met c.args.number (seats_of c.args.leaf.now) c.args.rows.now.items c.args.table c.index_mut-row.result.now c.requires.may c.requires.table c.requires.has c.index_mut-row.ensures.value in
    only_then row c.meet.new.seat
