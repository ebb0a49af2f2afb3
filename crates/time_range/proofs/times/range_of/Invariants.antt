use Rattle.time_range.proofs.Passing.{ArePassed}
use Rattle.time_range.proofs.times.range_of.Given as goal

abbrev pub invariant-loop-time : goal.invariant-loop-time
invariant-loop-time l = ArePassed l.times l.time-index l.from l.to l.in_order
