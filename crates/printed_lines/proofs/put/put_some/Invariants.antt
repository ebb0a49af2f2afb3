use Rattle.std.proofs.Common.{◌≡◌, ◌++◌, take}
use Rattle.printed_lines.specs.Lines.{lines_text}
use Rattle.printed_lines.proofs.put.put_some.Given as goal

abbrev pub invariant-loop-line : goal.invariant-loop-line
invariant-loop-line l = l.out.items ≡ l.initial.out.items ++ lines_text l.names (take l.line-index l.lines)
