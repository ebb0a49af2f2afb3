use Rattle.text_lines.specs.Parts.{IsFront}
use Rattle.text_lines.proofs.lines.cut_lines.Given as goal

abbrev pub invariant-loop-line : goal.invariant-loop-line
invariant-loop-line l = IsFront l.text l.rest l._line
