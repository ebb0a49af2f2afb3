use Rattle.std.proofs.Common.{length}
use Rattle.leaf_model.specs.Lent.{lent_rows}
use Rattle.group_table.proofs.fold.+fold_within.Given as goal

abbrev pub decreases-fold_within : goal.decreases-fold_within
decreases-fold_within l = length (lent_rows l.rows.now)
