use Rattle.std.proofs.Common.{rules, ◌≤◌, subst, tests}
use Rattle.bit_columns.proofs.Fours.{next_seen}
use Rattle.bit_columns.proofs.limit.are_four_at_most.Goals as goal

pub loop-j-preserved : goal.loop-j-preserved
loop-j-preserved c =
    let most = c.args.most in
    let low : c.low_bits.result ≤ most = search (rules, tests) in
    next_seen c.loop-j.rest c.args.word c.args.width most c.loop-j._j c.loop-j.invariant (subst (λ n. n ≤ most) c.low_bits.ensures.value low)
