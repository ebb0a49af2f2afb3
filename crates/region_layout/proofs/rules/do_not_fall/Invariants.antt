use Rattle.std.proofs.Common.{◌≡◌, [], drop}
use Rattle.region_layout.specs.Tests.{do_not_fall}
use Rattle.region_layout.proofs.rules.do_not_fall.Given as goal

abbrev pub invariant-loop-place : goal.invariant-loop-place
invariant-loop-place l = do_not_fall l.last (drop l.place-index l.places) ≡ do_not_fall [] l.places
