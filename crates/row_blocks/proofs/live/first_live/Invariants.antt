use Rattle.std.proofs.Common.{◌-◌}
use Rattle.row_blocks.proofs.FirstLive.{AreParted}
use Rattle.row_blocks.proofs.live.first_live.Given as goal

abbrev pub invariant-loop-first : goal.invariant-loop-first
invariant-loop-first l = AreParted l.block l.horizon l.skip l.first l.end

abbrev pub decreases-loop-first : goal.decreases-loop-first
decreases-loop-first l = l.end - l.first
