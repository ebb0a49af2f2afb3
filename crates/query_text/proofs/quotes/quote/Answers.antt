use Rattle.std.proofs.Common.{◌+◌, drop, arith, ◌∙◌}
use Rattle.query_text.proofs.Lexing.{rest_is}
use Rattle.query_text.proofs.quotes.quote.Goals as goal

pub loop-i-preserved : goal.loop-i-preserved
loop-i-preserved c = record {
  within = omega arith;
  so_far =
      (rw (rest_is c.args.rest.now c.loop-i.i (omega arith)) at c.loop-i.invariant.so_far)
      ∙ c.in_ok-is_marked.ensures c.loop-i.i (drop (c.loop-i.i + 1) c.args.rest.now);
}
