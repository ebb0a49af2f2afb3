use Rattle.std.proofs.Common.{refl}
use Rattle.standing_query.proofs.Going.{one_joined}
use Rattle.standing_query.proofs.standing.Standing.settle.Goals as goal

pub returns-clause-settled : goal.returns-clause-settled
returns-clause-settled c = (refl, one_joined c.settle.new.self.list.items c.args.groups c.settle.ensures.list)
