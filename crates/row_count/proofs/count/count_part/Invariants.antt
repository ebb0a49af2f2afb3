use Rattle.std.proofs.Common.{◌≡◌, ◌+◌, ◌≤◌, length}
use Rattle.text_lines.specs.Lines.{lines_of}
use Rattle.row_count.specs.Count.{count_of}
use Rattle.row_count.proofs.Counts.{count_after, more_by}
use Rattle.row_count.proofs.count.count_part.Given as goal

abbrev pub invariant-loop-rest : goal.invariant-loop-rest
invariant-loop-rest l =
    (count_of l.range l.part ≡ more_by l.count (count_after l.range l.line_number l.rest))
    × (l.count + length l.rest ≤ length l.part)
    × (l.line_number + length l.rest ≤ length l.part)
    × (l.line_number + length (lines_of l.rest) ≡ length (lines_of l.part))

abbrev pub decreases-loop-rest : goal.decreases-loop-rest
decreases-loop-rest l = length l.rest
