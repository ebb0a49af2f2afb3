use Rattle.std.proofs.Common.{◌≡◌, length}
use Rattle.leaf_model.specs.Content.{rows_from}
use Rattle.leaf_model.specs.Lent.{lent_rows}
use Rattle.leaf_model.proofs.packed_rows.are_from.Given as goal

abbrev pub invariant-loop-first : goal.invariant-loop-first
invariant-loop-first l = rows_from l.horizon (lent_rows l.left) ≡ lent_rows l.left → rows_from l.horizon (lent_rows l.rows) ≡ lent_rows l.rows

abbrev pub decreases-loop-first : goal.decreases-loop-first
decreases-loop-first l = length (lent_rows l.left)
