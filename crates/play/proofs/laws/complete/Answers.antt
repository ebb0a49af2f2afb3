use Rattle.play.proofs.Statuses.{complete}
use Rattle.play.proofs.laws.complete.Goals as goal

pub returns : goal.returns
returns c = complete
