use Rattle.std.proofs.Common.{◌≡◌, ◌++◌, length}
use Rattle.text_lines.specs.Lines.{lines_of}
use Rattle.text_lines.specs.Parts.{bytes_of_parts, lines_of_parts}
use Rattle.text_lines.proofs.parts.cut_parts.Given as goal

abbrev pub invariant-loop-rest : goal.invariant-loop-rest
invariant-loop-rest l =
    (bytes_of_parts l.parts.items ++ l.rest ≡ l.text)
    × (lines_of_parts l.parts.items ++ lines_of l.rest ≡ lines_of l.text)

abbrev pub decreases-loop-rest : goal.decreases-loop-rest
decreases-loop-rest l = length l.rest
