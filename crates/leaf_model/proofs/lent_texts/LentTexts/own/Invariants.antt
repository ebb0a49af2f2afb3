use Rattle.std.proofs.Common.{◌≡◌, ◌++◌, length}
use Rattle.leaf_model.specs.Lent.{lent_texts}
use Rattle.leaf_model.proofs.lent_texts.LentTexts.own.Given as goal

abbrev pub invariant-loop-first : goal.invariant-loop-first
invariant-loop-first l = l.texts.items ++ lent_texts l.left ≡ lent_texts l.self

abbrev pub decreases-loop-first : goal.decreases-loop-first
decreases-loop-first l = length (lent_texts l.left)
