use Rattle.std.proofs.Common.{◌≡◌, ◌+◌, drop, length}
use Rattle.leaf_model.specs.Content.{rows_from}
use Rattle.leaf_model.specs.Lent.{lent_rows}
use Rattle.table_state.proofs.order.count_below.Given as goal

abbrev pub invariant-loop-row : goal.invariant-loop-row
invariant-loop-row l = record {
  few : l.below + length (lent_rows l.left) ≡ length (lent_rows l.rows);
  behind : lent_rows l.left ≡ drop l.below (lent_rows l.rows);
  same : rows_from l.horizon (lent_rows l.left) ≡ rows_from l.horizon (lent_rows l.rows);
}

abbrev pub decreases-loop-row : goal.decreases-loop-row
decreases-loop-row l = length (lent_rows l.left)
