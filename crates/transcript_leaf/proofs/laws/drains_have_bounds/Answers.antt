use Rattle.transcript_leaf.proofs.Bounds.{few, much}
use Rattle.transcript_leaf.proofs.laws.drains_have_bounds.Goals as goal

pub returns-clause-room : goal.returns-clause-room
returns-clause-room c = λ tables columns stop life notes next drain. much tables columns stop life notes next drain

pub returns-clause-stop : goal.returns-clause-stop
returns-clause-stop c = λ tables n columns life notes next drain. few tables n columns life notes next drain
