use Rattle.std.proofs.Common.{◌≤◌, length}
use Rattle.text_lines.specs.Parts.{IsFront}
use Rattle.text_lines.proofs.passing.pass_blocks.Given as goal

abbrev pub invariant-loop-block : goal.invariant-loop-block
invariant-loop-block l = IsFront l.text l.rest l.lines × (l.lines ≤ l.most)

abbrev pub decreases-loop-block : goal.decreases-loop-block
decreases-loop-block l = length l.rest
