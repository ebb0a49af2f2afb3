use Rattle.std.proofs.Common.{rules}
use Rattle.rollover_watch.proofs.Cuts.{one_fits, none_fits}
use Rattle.rollover_watch.proofs.line.Line.push.Goals as goal

pub returns-then-self-lt80 : goal.returns-then-self-lt80
returns-then-self-lt80 c = rw (← c.self.view_is) (one_fits c.self.inside.bytes c.self.inside.len c.args.byte (search rules) (search rules))

pub returns-else-self-lt80 : goal.returns-else-self-lt80
returns-else-self-lt80 c = rw (← c.self.view_is) (none_fits c.self.inside.bytes c.self.inside.len c.args.byte (search rules) c.self.invariant.short (search rules))
