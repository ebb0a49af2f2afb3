use Rattle.adopt.specs.Starting.{TookSome}
use Rattle.adopt.proofs.starting.take_all.Given as goal

abbrev pub invariant-loop-more : goal.invariant-loop-more
invariant-loop-more g l = TookSome l.fn.image l.left (g.B.Berth.meaning l.initial.berth) (g.B.Berth.meaning l.berth)

abbrev pub decreases-loop-more : goal.decreases-loop-more
decreases-loop-more g l = l.left.left
