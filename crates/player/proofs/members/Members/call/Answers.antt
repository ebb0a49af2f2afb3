use Rattle.std.proofs.Common.{List, length, sym, ap, subst, arith}
use Rattle.leaf_table.specs.Turns.{Shared}
use Rattle.leaf_table.specs.Lists.{lists_in}
use Rattle.player.specs.Lines.{CallsWith}
use Rattle.player.specs.Rows.{IsColumn, called_at}
use Rattle.transcript.specs.Shapes.{call_of}
use Rattle.player.proofs.CallPieces.{one_call}
use Rattle.player.proofs.HoldLists.{seat_held}
use Rattle.player.proofs.MemberSteps.{calls_at, members_called, tables_at}
use Rattle.player.proofs.members.Members.call.Goals as goal

pub call_one-reply-requires-clause-column : goal.call_one-reply-requires-clause-column
call_one-reply-requires-clause-column g c = λ κs bounds.
    subst (λ (ts : List Shared). IsColumn c.args.leaf ts (lists_in c.args.self.now.rows.items)) (sym c.leaf-tables.ensures) (c.requires.members.columns c.args.leaf c.requires.leaf)

pub call_one-reply-requires-clause-table : goal.call_one-reply-requires-clause-table
call_one-reply-requires-clause-table g c = λ κs bounds.
    let count = tables_at c.args.self.now c.args.leaf c.requires.members c.requires.leaf in
    let same = ap (λ (ts : List Shared). length ts) c.leaf-tables.ensures in
    omega (arith, count, same, c.requires.table)

pub call_one-reply-requires-clause-has : goal.call_one-reply-requires-clause-has
call_one-reply-requires-clause-has g c = λ κs bounds.
    let x = c.args.self.now in
    seat_held x.tables.now x.leaves.items (lists_in x.rows.items) c.args.leaf c.args.table c.requires.has (omega (arith, c.requires.leaf, c.requires.members.leaves))

pub returns-clause-members : goal.returns-clause-members
returns-clause-members g c =
    let then = c.call_one-reply in
    members_called c.args.self.now c.args.leaf then.new.rows c.requires.members c.requires.leaf then.ensures.only
    (subst (λ (ts : List Shared). IsColumn c.args.leaf ts (lists_in then.new.rows.items)) c.leaf-tables.ensures then.ensures.column)

pub returns-clause-calls : goal.returns-clause-calls
returns-clause-calls g c =
    let then = c.call_one-reply in
    let tables = c.leaf-tables.result.now in
    let before = called_at c.args.leaf tables (lists_in c.args.self.now.rows.items) in
    let after = called_at c.args.leaf tables (lists_in then.new.rows.items) in
    calls_at c.args.self.now c.args.leaf then.new.rows c.requires.members c.requires.leaf then.ensures.only g.B.Berth.meaning c.args.table c.args.request c.call_lines.result
    (subst (λ (ts : List Shared). CallsWith c.args.self.now.names c.args.leaf c.args.table (call_of c.args.request) ts before.seats c.call_lines.result after.seats) c.leaf-tables.ensures
    (one_call c.args.self.now.names c.args.leaf c.args.table (call_of c.args.request) before after then.result c.call_lines.result then.ensures.calls c.requires.table c.call_lines.ensures))
