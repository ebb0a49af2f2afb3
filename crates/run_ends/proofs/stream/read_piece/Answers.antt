use Rattle.std.proofs.Common.{arith, rules}
use Rattle.run_ends.proofs.Taken.{one_too_much}
use Rattle.run_ends.proofs.stream.read_piece.Goals as goal

pub returns-then-passed-len-gt-LONGEST_TEXT-clause-too_long : goal.returns-then-passed-len-gt-LONGEST_TEXT-clause-too_long
returns-then-passed-len-gt-LONGEST_TEXT-clause-too_long g c =
    let l = c.loop-text in
    λ _. one_too_much _ _ _ _ l.text.items _ c.args.passed 16777216 _ c.in-Ok-take_more.count _ (search rules) l.invariant.0 c.in-Ok-take_more.ensures.took (omega arith) (search rules) (omega arith)
