use Rattle.std.proofs.Common.{◌≡◌, drop}
use Rattle.region_layout.specs.Tests.{end_by, end_of_place}
use Rattle.region_layout.proofs.rules.end_of_places.Given as goal

abbrev pub invariant-loop-place : goal.invariant-loop-place
invariant-loop-place l = end_by end_of_place l.at (drop l.place-index l.places) ≡ end_by end_of_place l.fn.from l.places
