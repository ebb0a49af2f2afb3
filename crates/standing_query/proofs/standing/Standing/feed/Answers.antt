use Rattle.std.proofs.Common.{true, arith}
use Rattle.standing_query.proofs.Feeding.{feed_means}
use Rattle.standing_query.proofs.Going.{none_kept}
use Rattle.standing_query.proofs.standing.Standing.feed.Goals as goal

pub returns-then-known-clause-fed : goal.returns-then-known-clause-fed
returns-then-known-clause-fed c = λ rows now means fed_to fresh. (
  fresh,
  feed_means c.args.self.now c.self.inside.query c.self.inside.spread c.self.inside.upto c.self.inside.stale c.self.inside.parts.rows c.self.inside.parts.list.items _
      c.self.invariant c.self.view_is c.args.fed c.go_on.new.self.rows c.go_on.new.self.list.items rows now c.in-Ok.ensures.rows means fed_to,
)

pub invariant_of-self-in-Err : goal.invariant_of-self-in-Err
invariant_of-self-in-Err c =
    none_kept c.self.inside.query c.self.inside.spread true c.clear-in-Err.new.self.rows c.clear-in-Err.new.self.list.items _ c.self.invariant.of c.clear-in-Err.ensures.list
    (omega (arith, c.clear-in-Err.ensures.rows)) (omega (arith, c.self.invariant.room, c.in-Err.ensures.room, c.clear-in-Err.ensures.room))
