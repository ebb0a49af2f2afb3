use Rattle.std.proofs.Common.{arith}
use Rattle.standing_query.proofs.Held.{still_counted, two_fit, two_merged}
use Rattle.standing_query.proofs.parts.put_part.Goals as goal

pub merge-requires : goal.merge-requires
merge-requires c =
    two_fit c.loop-before.list.items c.pop_short.new.list.items c.in-Some.before c.loop-before.last c.in-Some.ensures.items c.loop-before.invariant.counted

pub loop-before-preserved : goal.loop-before-preserved
loop-before-preserved c = record {
  counted =
      still_counted c.loop-before.list.items c.pop_short.new.list.items c.in-Some.before c.loop-before.last c.in-Some.ensures.items c.in_ok-last.last c.in_ok-last.ensures.both
      c.loop-before.invariant.counted;
  rows = λ q rows parts.
      two_merged c.loop-before.list.items c.pop_short.new.list.items c.in-Some.before c.loop-before.last c.in-Some.ensures.items c.in_ok-last.last c.in_ok-last.ensures.both q rows
      (c.loop-before.invariant.rows q rows parts);
  room = omega (arith, c.in-Some.ensures.room);
}
