use Rattle.std.proofs.Common.{length}
use Rattle.leaf_model.specs.Lent.{lent_texts}
use Rattle.group_table.proofs.guess.mix_texts.Given as goal

abbrev pub decreases-loop-text : goal.decreases-loop-text
decreases-loop-text l = length (lent_texts l.left)
