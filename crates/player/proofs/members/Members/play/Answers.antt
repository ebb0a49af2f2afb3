use Rattle.std.proofs.Common.{subst}
use Rattle.script_text.specs.Commands.{leaf_count}
use Rattle.script_text.specs.Orders.{IsOrder}
use Rattle.script_text.specs.declared.order.Order.TheVariants as order
use Rattle.player.specs.Crew.{HasOrder}
use Rattle.player.specs.Members.{fleet_in, holds_in}
use Rattle.player.proofs.NamePlaces.{known_place}
use Rattle.player.proofs.Playing.{call_plays, deed_plays, played_as, query_or_none, query_still, starts_play, tail_or_none, tail_still}
use Rattle.player.proofs.Restarting.{all_held}
use Rattle.player.proofs.members.Members.play.Goals as goal

pub ask-requires-clause-table : goal.ask-requires-clause-table
ask-requires-clause-table g c = λ κs bounds.
    let x = c.args.self.now in
    let may = subst (IsOrder (leaf_count (fleet_in x)) x.names) c.in-Query.is c.requires.may in
    known_place c.in-Query.query.table x.names may.0.0 may.0.1 may.0.2

pub rollover-requires-clause-held : goal.rollover-requires-clause-held
rollover-requires-clause-held g c κs bounds =
    let x = c.args.self.now in
    all_held x c.requires.members (subst (HasOrder (fleet_in x) (holds_in x)) c.in-Rollover.is c.requires.has)

pub returns-in-Start-clause-plays : goal.returns-in-Start-clause-plays
returns-in-Start-clause-plays g c =
    let then = c.start_all in
    played_as g.B.Berth.meaning c.args.self.now then.new.self _ then.result c.args.order order.Start c.in-Start.is
    (starts_play g.B.Berth.meaning c.args.self.now then.new.self _ then.result then.ensures.starts)

pub returns-in-Call-clause-plays : goal.returns-in-Call-clause-plays
returns-in-Call-clause-plays g c =
    let its = c.in-Call in
    let then = c.call in
    played_as g.B.Berth.meaning c.args.self.now then.new.self _ then.result c.args.order (order.Call its.leaf its.table its.request) its.is
    (call_plays g.B.Berth.meaning c.args.self.now then.new.self _ then.result its.leaf its.table its.request then.ensures.calls)

pub returns-in-Deed-clause-plays : goal.returns-in-Deed-clause-plays
returns-in-Deed-clause-plays g c =
    let its = c.in-Deed in
    let then = c.act in
    played_as g.B.Berth.meaning c.args.self.now then.new.self _ then.result c.args.order (order.Deed its.leaf its.deed) its.is
    (deed_plays g.B.Berth.meaning c.args.self.now then.new.self _ then.result its.leaf its.deed then.ensures.acts)

pub returns-in-Query-clause-plays : goal.returns-in-Query-clause-plays
returns-in-Query-clause-plays g c =
    query_or_none g.B.Berth.meaning c.args.self.now c.ask.new.self _ c.ask.result c.in-Query.query c.args.order c.in-Query.is c.ask.ensures.asks

pub returns-in-Query-clause-still : goal.returns-in-Query-clause-still
returns-in-Query-clause-still g c = query_still g.B.Berth.meaning c.in-Query.query c.args.self.now c.ask.new.self c.ask.result c.ask.ensures.asks

pub returns-in-Tail-clause-plays : goal.returns-in-Tail-clause-plays
returns-in-Tail-clause-plays g c =
    let tail = c.in-Tail in
    tail_or_none g.B.Berth.meaning c.args.self.now c.tail.new.self _ c.tail.result tail.key tail.table tail.rows c.args.order tail.is c.tail.ensures.tails

pub returns-in-Tail-clause-still : goal.returns-in-Tail-clause-still
returns-in-Tail-clause-still g c =
    let tail = c.in-Tail in
    tail_still g.B.Berth.meaning tail.key tail.table tail.rows c.args.self.now c.tail.new.self c.tail.result c.tail.ensures.tails
