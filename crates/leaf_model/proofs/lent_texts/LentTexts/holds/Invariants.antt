use Rattle.std.proofs.Common.{◌≡◌, length}
use Rattle.row_model.specs.Names.{is_among}
use Rattle.leaf_model.specs.Lent.{lent_texts}
use Rattle.leaf_model.proofs.lent_texts.LentTexts.holds.Given as goal

abbrev pub invariant-loop-first : goal.invariant-loop-first
invariant-loop-first l = is_among (lent_texts l.left) l.text ≡ is_among (lent_texts l.self) l.text

abbrev pub decreases-loop-first : goal.decreases-loop-first
decreases-loop-first l = length (lent_texts l.left)
