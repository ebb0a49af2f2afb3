use Rattle.std.proofs.Common.{refl}
use Rattle.rollover_driver.specs.Calls.{Starts}
use Rattle.rollover_driver.proofs.Steps.{each_more}
use Rattle.rollover_driver.proofs.driving.start_all.Goals as goal

pub loop-leaf-preserved : goal.loop-leaf-preserved
loop-leaf-preserved g c =
    each_more g.F.Fleet.has g.F.Fleet.stands Starts c.args.leaves.now c.loop-leaf.leaf-index _ 0 _ _ _ _ _ _ c.loop-leaf.asked c.start-asked.result
    c.loop-leaf.invariant c.start-asked.ensures c.loop-leaf-test.true refl
