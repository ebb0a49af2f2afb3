use Rattle.std.proofs.Common.{◌≡◌, ◌+◌, ◌≤◌, length}
use Rattle.leaf_model.specs.Content.{rows_from}
use Rattle.leaf_model.specs.Lent.{lent_rows}
use Rattle.table_state.proofs.held.count_from.Given as goal

abbrev pub invariant-loop-row : goal.invariant-loop-row
invariant-loop-row l = record {
  few : l.kept + length (lent_rows l.left) ≤ length (lent_rows l.rows);
  counted : l.kept + length (rows_from l.horizon (lent_rows l.left)) ≡ length (rows_from l.horizon (lent_rows l.rows));
}

abbrev pub decreases-loop-row : goal.decreases-loop-row
decreases-loop-row l = length (lent_rows l.left)
