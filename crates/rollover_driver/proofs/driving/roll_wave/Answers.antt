use Rattle.rollover_driver.proofs.Steps.{wave_done}
use Rattle.rollover_driver.proofs.driving.roll_wave.Goals as goal

pub returns : goal.returns
returns g c =
    wave_done g.F.Fleet.has g.F.Fleet.stands c.start_all-asked.ensures c.drain_all-asked.ensures c.tell_all-asked.ensures.told c.tell_all-asked.ensures.halt
    c.as_slice-leaves.ensures
