use Rattle.std.proofs.Common.{◌≡◌, map, take}
use Rattle.block_scan.proofs.laying.slots_alone.Given as goal

abbrev pub invariant-loop-one : goal.invariant-loop-one
invariant-loop-one l = l.slots.items ≡ map (λ u. u.1) (take l.one-index l.used)
