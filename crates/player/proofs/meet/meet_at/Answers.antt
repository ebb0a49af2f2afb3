use Rattle.std.proofs.Common.{◌<◌, length, arith}
use Rattle.leaf_table.specs.Lists.{lists_in}
use Rattle.player.specs.Crew.{column}
use Rattle.leaf_deeds.specs.Held.{seats_of, leaf_state}
use Rattle.player.proofs.Columns.{element_at, lists_count}
use Rattle.player.proofs.MetFirst.{meets_none}
use Rattle.player.proofs.SeatRows.{seat_none, seat_there}
use Rattle.player.proofs.meet.meet_at.Goals as goal

pub meet_there-requires-clause-has : goal.meet_there-requires-clause-has
meet_there-requires-clause-has g c = λ κs bounds.
    let tables = (seats_of c.args.leaf.now).tables in
    let rows = c.args.rows.now.items in
    let is = c.requires.may.column in
    let within : c.args.table < length tables = omega (arith, is.sizes.count, lists_count rows, c.requires.table) in
    seat_there c.args.number tables rows c.args.table c.index.result.now is within c.index.ensures c.is_empty.result c.is_empty.ensures c.if-not-is_empty.true

pub returns-else-not-is_empty-clause-met : goal.returns-else-not-is_empty-clause-met
returns-else-not-is_empty-clause-met g c =
    let tables = (seats_of c.args.leaf.now).tables in
    let rows = c.args.rows.now.items in
    let is = c.requires.may.column in
    let within : c.args.table < length tables = omega (arith, is.sizes.count, lists_count rows, c.requires.table) in
    let v = element_at (seats_of c.args.leaf.now).seats c.args.table (omega (arith, within, c.requires.may.seats)) in
    meets_none c.args.table (leaf_state c.args.leaf.now) (column c.args.number (lists_in rows)) v.0 v.1
    (seat_none c.args.number tables rows c.args.table c.index.result.now is within c.index.ensures c.is_empty.result c.is_empty.ensures c.if-not-is_empty.false)
