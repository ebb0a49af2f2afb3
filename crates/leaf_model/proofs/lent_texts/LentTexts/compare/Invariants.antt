use Rattle.std.proofs.Common.{◌≡◌, length}
use Rattle.row_model.specs.Texts.{texts_cmp}
use Rattle.leaf_model.specs.Lent.{lent_texts}
use Rattle.leaf_model.proofs.lent_texts.LentTexts.compare.Given as goal

abbrev pub invariant-loop-a : goal.invariant-loop-a
invariant-loop-a l = texts_cmp (lent_texts l.mine) (lent_texts l.theirs) ≡ texts_cmp (lent_texts l.self) (lent_texts l.other)

abbrev pub decreases-loop-a : goal.decreases-loop-a
decreases-loop-a l = length (lent_texts l.mine)
