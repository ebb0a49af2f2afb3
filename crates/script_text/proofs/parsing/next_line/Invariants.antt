use Rattle.std.proofs.Common.{◌≡◌, ◌+◌, ◌≤◌, length}
use Rattle.text_lines.specs.Lines.{lines_of}
use Rattle.script_text.specs.Script.{next_line}
use Rattle.script_text.proofs.parsing.next_line.Given as goal

abbrev pub invariant-loop-rest : goal.invariant-loop-rest
invariant-loop-rest l =
    (next_line (l.number + 1) (lines_of l.rest) ≡ next_line (l.fn.lines_before + 1) (lines_of l.text))
    × (l.number + length l.rest ≤ l.fn.lines_before + length l.text)
    × (length l.rest ≤ length l.text)

abbrev pub decreases-loop-rest : goal.decreases-loop-rest
decreases-loop-rest l = length l.rest
