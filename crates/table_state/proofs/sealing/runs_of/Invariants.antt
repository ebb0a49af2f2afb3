use Rattle.std.proofs.Common.{length}
use Rattle.leaf_model.specs.Lent.{lent_rows}
use Rattle.table_state.proofs.Runs.{AreInRuns}
use Rattle.table_state.proofs.sealing.runs_of.Given as goal

abbrev pub invariant-loop-left : goal.invariant-loop-left
invariant-loop-left l = AreInRuns (lent_rows l.rows) l.blocks.items (lent_rows l.left)

abbrev pub decreases-loop-left : goal.decreases-loop-left
decreases-loop-left l = length (lent_rows l.left)
