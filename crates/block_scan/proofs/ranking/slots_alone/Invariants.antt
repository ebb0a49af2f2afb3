use Rattle.std.proofs.Common.{◌≡◌, map, take}
use Rattle.block_scan.proofs.ranking.slots_alone.Given as goal

abbrev pub invariant-loop-one : goal.invariant-loop-one
invariant-loop-one l = l.slots.items ≡ map (λ u. u.4) (take l.one-index l.all)
