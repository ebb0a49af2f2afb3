use Rattle.std.proofs.Common.{length}
use Rattle.standing_query.proofs.told.+told.Given as goal

abbrev pub decreases-told : goal.decreases-told
decreases-told l = length l.spread.now
