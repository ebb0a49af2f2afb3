use Rattle.crash_moments.proofs.Telling.{told_join}
use Rattle.crash_moments.proofs.told_joins.Goals as goal

pub returns : goal.returns
returns g c = λ others xs ys zs first second. told_join others xs ys zs (g.B.Berth.meaning c.args.first.now) (g.B.Berth.meaning c.args.second.now) (g.B.Berth.meaning c.args.third.now) first second
