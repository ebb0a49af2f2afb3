use Rattle.std.proofs.Common.{◌≡◌, map, take}
use Rattle.block_scan.proofs.ranking.ranked.Given as goal

abbrev pub invariant-loop-place : goal.invariant-loop-place
invariant-loop-place l = map (λ u. u.4) l.all.items ≡ take l.place l.slots
