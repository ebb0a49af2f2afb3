use Rattle.std.proofs.Common.{length}
use Rattle.group_table.proofs.guess.mix_front.Given as goal

abbrev pub decreases-loop-word : goal.decreases-loop-word
decreases-loop-word l = length l.rest
