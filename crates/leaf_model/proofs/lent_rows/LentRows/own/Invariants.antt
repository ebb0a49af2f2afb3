use Rattle.std.proofs.Common.{◌≡◌, ◌++◌, length}
use Rattle.leaf_model.specs.Lent.{lent_rows}
use Rattle.leaf_model.proofs.lent_rows.LentRows.own.Given as goal

abbrev pub invariant-loop-first : goal.invariant-loop-first
invariant-loop-first l = l.rows.items ++ lent_rows l.left ≡ lent_rows l.self

abbrev pub decreases-loop-first : goal.decreases-loop-first
decreases-loop-first l = length (lent_rows l.left)
