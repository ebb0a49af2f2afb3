use Rattle.std.proofs.Common.{◌≡◌, length, leb}
use Rattle.row_model.specs.Values.{bytes_in}
use Rattle.leaf_model.specs.Lent.{lent_texts}
use Rattle.leaf_model.proofs.lent_texts.LentTexts.are_within.Given as goal

abbrev pub invariant-loop-first : goal.invariant-loop-first
invariant-loop-first l = leb (bytes_in (lent_texts l.left)) l.room ≡ leb (bytes_in (lent_texts l.self)) l.most

abbrev pub decreases-loop-first : goal.decreases-loop-first
decreases-loop-first l = length (lent_texts l.left)
