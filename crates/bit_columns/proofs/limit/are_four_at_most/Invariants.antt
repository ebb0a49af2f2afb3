use Rattle.bit_columns.proofs.Fours.{Seen}
use Rattle.bit_columns.proofs.limit.are_four_at_most.Given as goal

abbrev pub invariant-loop-j : goal.invariant-loop-j
invariant-loop-j l = Seen l.rest l.word l.width l.most l._j
