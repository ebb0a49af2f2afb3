use Rattle.std.proofs.Common.{take}
use Rattle.script_text.specs.Marks.{Marks}
use Rattle.script_text.specs.Stewards.{has_steward, has_stewards}
use Rattle.script_text.proofs.marks.StewardMarks.mark_lane.Given as goal

abbrev pub invariant-loop-command : goal.invariant-loop-command
invariant-loop-command l = Marks l.fn.self l.self (λ leaf. has_steward leaf (take l.command-index l.lane)) (has_stewards (take l.command-index l.lane))
