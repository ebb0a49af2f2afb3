use Rattle.std.proofs.Common.{◌≡◌}
use Rattle.std.specs.Slice.Iter.{chunks_rest, chunks_size}
use Rattle.rollover_plan.proofs.Cuts.{IsCutting}
use Rattle.rollover_plan.proofs.plan.cut.Given as goal

abbrev pub invariant-loop-run : goal.invariant-loop-run
invariant-loop-run l = record {
  can_next : goal.iterator-loop-run.can_next l.run-iterator;
  is_finite : goal.iterator-loop-run.is_finite l.run-iterator;
  size : chunks_size l.run-iterator ≡ l.share;
  cutting : IsCutting l.share l.leaves (chunks_rest l.run-iterator) l.waves.items;
}
