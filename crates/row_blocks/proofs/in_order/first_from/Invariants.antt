use Rattle.std.proofs.Common.{◌-◌}
use Rattle.row_blocks.proofs.Halves.{AreHalved}
use Rattle.row_blocks.proofs.in_order.first_from.Given as goal

abbrev pub invariant-halves : goal.invariant-halves
invariant-halves l = AreHalved l.sorted l.horizon l.first l.end

abbrev pub decreases-halves : goal.decreases-halves
decreases-halves l = l.end - l.first
