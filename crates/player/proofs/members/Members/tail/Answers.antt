use Rattle.std.proofs.Common.{arith, rules}
use Rattle.std.specs.Prelude.{IsErr}
use Rattle.player.proofs.RowCalls.{seats_at}
use Rattle.player.proofs.Tailing.{members_row, none_sent, one_sent, some_leaves}
use Rattle.player.proofs.members.Members.tail.Goals as goal

pub send_row-requires-clause-seats : goal.send_row-requires-clause-seats
send_row-requires-clause-seats g c = λ κs bounds. seats_at c.args.self.now c.args.table c.requires.members c.requires.table c.requires.has

pub send_row-requires-clause-some : goal.send_row-requires-clause-some
send_row-requires-clause-some g c = λ κs bounds. let some = some_leaves c.args.self.now c.requires.members in omega (arith, some, c.requires.members.tables)

pub returns-in_err-tailed-clause-members : goal.returns-in_err-tailed-clause-members
returns-in_err-tailed-clause-members g c =
    members_row c.args.self.now c.args.table c.requires.members c.requires.table c.requires.has c.args.key c.args.rows.now c.send_row.new.seats c.send_row.result c.send_row.ensures.sends c.send_row.ensures.refused

pub returns-in_err-tailed-clause-tails : goal.returns-in_err-tailed-clause-tails
returns-in_err-tailed-clause-tails g c =
    let err : IsErr c.send_row.result = search rules in
    let out : IsErr c.from_residual.result = search rules in
    none_sent c.args.self.now c.args.table c.requires.members c.requires.table c.requires.has c.args.key c.args.rows.now c.send_row.new.seats c.send_row.result c.send_row.ensures.sends c.send_row.ensures.refused
    g.B.Berth.meaning c.from_residual.result err out

pub returns-clause-members : goal.returns-clause-members
returns-clause-members g c =
    members_row c.args.self.now c.args.table c.requires.members c.requires.table c.requires.has c.args.key c.args.rows.now c.send_row.new.seats c.send_row.result c.send_row.ensures.sends c.send_row.ensures.refused

pub returns-clause-tails : goal.returns-clause-tails
returns-clause-tails g c =
    one_sent c.args.self.now c.args.table c.requires.members c.requires.table c.requires.has c.args.key c.args.rows.now c.send_row.new.seats c.send_row.result c.send_row.ensures.sends c.send_row.ensures.refused
    g.B.Berth.meaning c.tail_lines.result c.in_ok-tailed.tailed c.in_ok-tailed.was c.tail_lines.ensures
