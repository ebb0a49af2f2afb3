use Rattle.leaf_deeds.specs.Steps.{copy_left}
use Rattle.leaf_deeds.proofs.Copied.{CopiedSoFar}
use Rattle.leaf_deeds.proofs.drain.copy_all.Given as goal

abbrev pub invariant-loop-leaf : goal.invariant-loop-leaf
invariant-loop-leaf g l = CopiedSoFar l.fn.leaf.0 (g.B.Berth.meaning l.fn.leaf.1) l.fn.steps.left l.leaf.0 (g.B.Berth.meaning l.leaf.1) l.steps.left l.notes

abbrev pub decreases-loop-leaf : goal.decreases-loop-leaf
decreases-loop-leaf g l = copy_left l.leaf.0
