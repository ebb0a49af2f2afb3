use Rattle.std.proofs.Common.{◌≡◌, ◌+◌, ◌≤◌, length}
use Rattle.text_lines.specs.Lines.{lines_of}
use Rattle.script_text.specs.Readings.{IsReading}
use Rattle.script_text.specs.Script.{begun, read_from}
use Rattle.script_text.proofs.parsing.script_behind.Given as goal

abbrev pub invariant-loop-line : goal.invariant-loop-line
invariant-loop-line g l =
    (read_from l.last l.fleet 0 (l.last_line + 1) l.reading (lines_of l.rest) ≡ read_from l.last l.fleet 0 (l.fleet_line + 1) (begun l.fleet_line l.fleet) (lines_of l.text))
    × (l.last_line + length l.rest ≤ l.fleet_line + length l.text)
    × IsReading l.fleet l.reading

abbrev pub decreases-loop-line : goal.decreases-loop-line
decreases-loop-line g l = length l.rest
