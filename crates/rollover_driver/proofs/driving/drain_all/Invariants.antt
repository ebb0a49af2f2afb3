use Rattle.std.proofs.Common.{[], map, take}
use Rattle.rollover_driver.specs.Calls.{Drains, AreOfEach}
use Rattle.rollover_driver.specs.Done.{HasDone}
use Rattle.rollover_driver.proofs.driving.drain_all.Given as goal

abbrev pub invariant-loop-leaf : goal.invariant-loop-leaf
invariant-loop-leaf g l =
    HasDone g.F.Fleet.has g.F.Fleet.stands (AreOfEach Drains (take l.leaf-index l.leaves)) []
    l.fn.fleet
    (map (λ b. (goal.Watch-dyn g (b.vtable, b.value)).held b.value) l.fn.watches.items)
    l.asked
    l.fleet
    (map (λ b. (goal.Watch-dyn g (b.vtable, b.value)).held b.value) l.watches.items)
