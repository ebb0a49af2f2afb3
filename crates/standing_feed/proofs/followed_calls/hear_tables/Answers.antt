use Rattle.std.proofs.Common.{rules}
use Rattle.standing_feed.proofs.Kept.{heard_next}
use Rattle.standing_feed.proofs.followed_calls.hear_tables.Goals as goal

pub loop-table-preserved : goal.loop-table-preserved
loop-table-preserved c =
    heard_next c.args.lines.now c.args.tables.items c.loop-table.rest.items c.pop_front.new.self.items c.in-Some.table c.loop-table.all.items c.push.new.self.items c.in_ok-heard.heard
    c.loop-table.invariant c.in-Some.ensures.items c.in_ok-heard.ensures (search rules)
