use Rattle.std.proofs.Common.{◌≡◌, int_le, length, true}
use Rattle.leaf_model.specs.Lent.{lent_rows}
use Rattle.table_state.proofs.Least.{Passed}
use Rattle.table_state.proofs.tail.least_in.Given as goal

abbrev pub invariant-loop-row : goal.invariant-loop-row
invariant-loop-row l = record {
  most : int_le l.least l.most ≡ true;
  passed : Passed l.horizon (lent_rows l.rows) l.least (lent_rows l.left);
}

abbrev pub decreases-loop-row : goal.decreases-loop-row
decreases-loop-row l = length (lent_rows l.left)
