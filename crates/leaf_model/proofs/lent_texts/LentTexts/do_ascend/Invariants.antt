use Rattle.std.proofs.Common.{◌≡◌, ◌∷◌, length}
use Rattle.row_model.specs.Sets.{do_ascend}
use Rattle.leaf_model.specs.Lent.{lent_texts}
use Rattle.leaf_model.proofs.lent_texts.LentTexts.do_ascend.Given as goal

abbrev pub invariant-loop-next : goal.invariant-loop-next
invariant-loop-next l = do_ascend (l.last ∷ lent_texts l.left) ≡ do_ascend (lent_texts l.self)

abbrev pub decreases-loop-next : goal.decreases-loop-next
decreases-loop-next l = length (lent_texts l.left)
