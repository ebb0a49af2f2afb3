use Rattle.std.proofs.Common.{◌≤◌, ◌∙◌, subst, arith}
use Rattle.play_tests.proofs.OverFiles.{opened_over}
use Rattle.play_tests.proofs.files.picked.Goals as goal

pub pick-requires-clause-moment : goal.pick-requires-clause-moment
pick-requires-clause-moment c = subst (λ n. c.args.moment ≤ n) c.files-kept.ensures.clock c.requires.moment

pub returns : goal.returns
returns c =
    let was = c.files-kept.ensures in
    let means = c.over-found.ensures.files in
    let left = c.in_ok-left.ensures.left in (
      c.has_base_after_crash.ensures 0 c.args.moment left.0 c.requires.since (omega arith) c.requires.moment ((was.leaves c.args.moment left.0).1 left.1)
          (opened_over left.0.region left.0.disk _ _ means left.2),
      means.clock ∙ c.in_ok-left.ensures.clock,
    )
