use Rattle.std.proofs.Common.{refl}
use Rattle.rollover_driver.specs.Calls.{Drains}
use Rattle.rollover_driver.proofs.Steps.{each_more}
use Rattle.rollover_driver.proofs.driving.drain_all.Goals as goal

pub loop-leaf-preserved : goal.loop-leaf-preserved
loop-leaf-preserved g c =
    each_more g.F.Fleet.has g.F.Fleet.stands Drains c.args.leaves.now c.loop-leaf.leaf-index _ 0 _ _ _ _ _ _ c.loop-leaf.asked c.drain-asked.result
    c.loop-leaf.invariant c.drain-asked.ensures c.loop-leaf-test.true refl
