use Rattle.std.proofs.Common.{◌≡◌, take, map}
use Rattle.answer_text.specs.Answer.{group_line}
use Rattle.answer_text.proofs.answer.print_all.Given as goal

abbrev pub invariant-loop-group : goal.invariant-loop-group
invariant-loop-group l = l.lines.items ≡ map (λ g. group_line l.query g.now) (take l.group-index l.groups)
