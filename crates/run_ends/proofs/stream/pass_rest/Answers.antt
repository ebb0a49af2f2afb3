use Rattle.std.proofs.Common.{◌-◌, arith, rules}
use Rattle.run_ends.proofs.Taken.{count_more}
use Rattle.run_ends.proofs.stream.pass_rest.Goals as goal

pub loop-taken-preserved : goal.loop-taken-preserved
loop-taken-preserved g c =
    let l = c.loop-taken in (
      count_more _ _ _ _ _ (l.taken - c.args.passed) c.in-Ok-take_more.count _ _ l.invariant.0 c.in-Ok-take_more.ensures.took (omega arith),
      search rules,
      search rules,
      search rules,
      search rules,
    )
