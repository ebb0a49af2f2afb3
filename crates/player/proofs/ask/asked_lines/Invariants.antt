use Rattle.std.proofs.Common.{◌≡◌}
use Rattle.player.specs.Commands.{asked_lines}
use Rattle.player.proofs.ask.asked_lines.Given as goal

-- the lines of the leaves before this one
abbrev pub invariant-loop-leaf : goal.invariant-loop-leaf
invariant-loop-leaf l = l.lines.items ≡ asked_lines l.leaf l.table l.fanned
