use Rattle.leaf_steward.proofs.Bringing.{stays}
use Rattle.leaf_steward.proofs.log.StewardLog.settle_owed.Goals as goal

pub returns-else-owes-clause-runs : goal.returns-else-owes-clause-runs
returns-else-owes-clause-runs g c = λ writes told founded runs. stays c.args.seats.now c.args.self.now writes (g.B.Berth.meaning c.args.berth.now) runs
