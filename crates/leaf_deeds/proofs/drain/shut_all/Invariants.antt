use Rattle.std.proofs.Common.{◌-◌, length}
use Rattle.leaf_machine.specs.States.{treated}
use Rattle.leaf_deeds.proofs.Drained.{SoFar}
use Rattle.leaf_deeds.proofs.drain.shut_all.Given as goal

abbrev pub invariant-loop-alloc : goal.invariant-loop-alloc
invariant-loop-alloc g l = SoFar l.fn.leaf.0 (g.B.Berth.meaning l.fn.leaf.1) l.fn.steps.left l.leaf.0 (g.B.Berth.meaning l.leaf.1) l.steps.left l.notes

abbrev pub decreases-loop-alloc : goal.decreases-loop-alloc
decreases-loop-alloc g l = length l.leaf.0.serving.seated.tables - treated l.leaf.0
