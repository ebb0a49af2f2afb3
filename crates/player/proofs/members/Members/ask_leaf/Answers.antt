use Rattle.std.proofs.Common.{List, length, sym, ap, subst, arith}
use Rattle.leaf_table.specs.Turns.{Shared}
use Rattle.leaf_table.specs.Lists.{lists_in}
use Rattle.player.specs.Rows.{IsColumn}
use Rattle.player.proofs.AskLeaf.{asks_leaf, still_asked, time_asked}
use Rattle.player.proofs.HoldLists.{seat_held}
use Rattle.player.proofs.MemberSteps.{members_called, tables_at}
use Rattle.player.proofs.members.Members.ask_leaf.Goals as goal

pub call_one-reply-requires-clause-column : goal.call_one-reply-requires-clause-column
call_one-reply-requires-clause-column g c = λ κs bounds.
    subst (λ (ts : List Shared). IsColumn c.args.leaf ts (lists_in c.args.self.now.rows.items)) (sym c.leaf-tables.ensures) (c.requires.members.columns c.args.leaf c.requires.leaf)

pub call_one-reply-requires-clause-table : goal.call_one-reply-requires-clause-table
call_one-reply-requires-clause-table g c = λ κs bounds.
    let count = tables_at c.args.self.now c.args.leaf c.requires.members c.requires.leaf in
    let same = ap (λ (ts : List Shared). length ts) c.leaf-tables.ensures in
    omega (arith, count, same, c.requires.table)

pub call_one-reply-requires-clause-has : goal.call_one-reply-requires-clause-has
call_one-reply-requires-clause-has g c = λ κs bounds.
    let x = c.args.self.now in
    seat_held x.tables.now x.leaves.items (lists_in x.rows.items) c.args.leaf c.args.table c.requires.has (omega (arith, c.requires.leaf, c.requires.members.leaves))

pub returns-clause-members : goal.returns-clause-members
returns-clause-members g c =
    let then = c.call_one-reply in
    members_called c.args.self.now c.args.leaf then.new.rows c.requires.members c.requires.leaf then.ensures.only
    (subst (λ (ts : List Shared). IsColumn c.args.leaf ts (lists_in then.new.rows.items)) c.leaf-tables.ensures then.ensures.column)

pub returns-clause-asks : goal.returns-clause-asks
returns-clause-asks g c =
    let then = c.call_one-reply in
    asks_leaf c.args.self.now c.args.leaf c.args.table c.args.query.now then.result then.new.rows c.requires.members c.requires.leaf then.ensures.only c.requires.table
    c.leaf-tables.result.now c.leaf-tables.ensures then.ensures.calls g.B.Berth.meaning c.call_line.result c.call_line.ensures

pub returns-clause-still : goal.returns-clause-still
returns-clause-still g c =
    let then = c.call_one-reply in
    still_asked c.args.self.now c.args.leaf c.args.table c.args.query.now then.result then.new.rows c.requires.members c.requires.leaf then.ensures.only c.requires.table
    c.leaf-tables.result.now c.leaf-tables.ensures then.ensures.calls g.B.Berth.meaning

pub returns-clause-time : goal.returns-clause-time
returns-clause-time g c =
    let then = c.call_one-reply in
    time_asked c.args.self.now c.args.leaf c.args.table c.args.query.now then.result then.new.rows c.requires.members c.requires.leaf then.ensures.only c.requires.table
    c.leaf-tables.result.now c.leaf-tables.ensures then.ensures.calls g.B.Berth.meaning
