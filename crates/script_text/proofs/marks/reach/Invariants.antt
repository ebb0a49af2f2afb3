use Rattle.std.proofs.Common.{◌-◌, ◌+◌, length}
use Rattle.script_text.specs.Marks.{SameMarks}
use Rattle.script_text.proofs.marks.reach.Given as goal

abbrev pub invariant-loop-marks : goal.invariant-loop-marks
invariant-loop-marks l = SameMarks l.fn.marks.items l.marks.items

abbrev pub decreases-loop-marks : goal.decreases-loop-marks
decreases-loop-marks l = l.place + 1 - length l.marks.items
