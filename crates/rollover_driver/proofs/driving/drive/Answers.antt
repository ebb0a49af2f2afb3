use Rattle.rollover_driver.proofs.Waves.{drive_ends}
use Rattle.rollover_driver.proofs.driving.drive.Goals as goal

pub returns-clause-drives : goal.returns-clause-drives
returns-clause-drives g c =
    drive_ends g.F.Fleet.has g.F.Fleet.stands c.as_slice.result.now c.args.fleet.now _ c.args.waves.now c.roll_all-rolled.new.fleet _ _ c.roll_all-rolled.result
    c.roll_all-rolled.ensures c.as_slice.ensures g.met.F.Fleet.stays c.tell_all-asked.ensures.told
