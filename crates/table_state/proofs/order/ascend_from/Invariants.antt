use Rattle.std.proofs.Common.{length}
use Rattle.leaf_model.specs.Lent.{lent_rows}
use Rattle.table_state.proofs.Ascending.{Passed}
use Rattle.table_state.proofs.order.ascend_from.Given as goal

abbrev pub invariant-loop-row : goal.invariant-loop-row
invariant-loop-row l = Passed l.from l.horizon (lent_rows l.rows) l.last (lent_rows l.left)

abbrev pub decreases-loop-row : goal.decreases-loop-row
decreases-loop-row l = length (lent_rows l.left)
