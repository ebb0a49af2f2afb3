use Rattle.std.specs.Prelude.{◌≢◌}
use Rattle.drain_copy.specs.declared.step.Next.TheVariants as next
use Rattle.region_tests.proofs.steps.drain_all.Given as goal

abbrev pub invariant-loop : goal.invariant-loop
invariant-loop l = l.drain.next ≢ next.Nothing
