use Rattle.std.proofs.Common.{rules, ◌∙◌}
use Rattle.standing_feed.proofs.Heeding.{heeds_end, heeds_more}
use Rattle.standing_feed.proofs.following.heed_all.Goals as goal

pub loop-heard-preserved : goal.loop-heard-preserved
loop-heard-preserved c = record {
  query = c.heed.ensures.query ∙ c.loop-heard.invariant.query;
  so_far = heeds_more c.args.standing.now c.loop-heard.standing c.heed.new.standing c.args.heard.items c.loop-heard.rest.items c.pop_front.new.self.items c.in-Some.heard
      c.loop-heard.invariant.so_far c.in-Some.ensures.items c.in_ok-heed.ensures.heeds;
}

pub returns-clause-heeds : goal.returns-clause-heeds
returns-clause-heeds c = heeds_end c.args.standing.now c.loop-heard.standing c.args.heard.items c.loop-heard.rest.items c.loop-heard.invariant.so_far (search rules)
