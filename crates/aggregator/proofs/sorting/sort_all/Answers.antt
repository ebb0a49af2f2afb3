use Rattle.std.proofs.Common.{rules}
use Rattle.aggregator.proofs.Dividing.{divided_at_the_end}
use Rattle.aggregator.proofs.sorting.sort_all.Goals as goal

pub returns-clause-divides : goal.returns-clause-divides
returns-clause-divides c =
    divided_at_the_end c.args.replies.items c.loop-reply.leaf c.loop-reply.rest.items c.loop-reply.fanned c.loop-reply.invariant (search rules) c.requires.answers
