use Rattle.std.proofs.Common.{◌+◌, ◌-◌, ◌*◌, length}
use Rattle.aggregator.proofs.asking.+halves.Given as goal

abbrev pub decreases-ask_each : goal.decreases-ask_each
decreases-ask_each g l = 4 * length l.seats.now

abbrev pub decreases-ask_both : goal.decreases-ask_both
decreases-ask_both g l = 4 * (length l.low.now + length l.high.now) - 1

abbrev pub decreases-ask_both-one : goal.decreases-ask_both-one
decreases-ask_both-one g l = 4 * length l.low.now + 1

abbrev pub decreases-ask_both-other : goal.decreases-ask_both-other
decreases-ask_both-other g l = 4 * length l.high.now + 1
