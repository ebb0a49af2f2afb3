use Rattle.std.proofs.Common.{rules, true, false, [], refl}
use Rattle.rollover_driver.proofs.Waves.{rolling_more, rolling_ends, rolling_halts, are_had, same_number, rolled_at}
use Rattle.rollover_driver.proofs.driving.roll_all.Goals as goal

pub returns-then-asked : goal.returns-then-asked
returns-then-asked g c =
    rolling_halts g.F.Fleet.has g.F.Fleet.stands c.args.waves.now c.args.fleet.now _ c.loop-wave.wave-index [] c.loop-wave.asked c.loop-wave.fleet _ _
    c.loop-wave.invariant.rolling c.if-asked.true c.loop-wave-test.true (rolled_at true c.loop-wave.invariant.count)

pub roll_wave-asked-requires : goal.roll_wave-asked-requires
roll_wave-asked-requires g c =
    are_had g.F.Fleet.has g.F.Fleet.stands c.args.waves.now c.args.fleet.now [] c.loop-wave.wave-index c.wave-item.result c.loop-wave.fleet
    c.requires.known c.loop-wave.invariant.rolling.same c.loop-wave-test.true c.wave-item.is

pub loop-wave-preserved : goal.loop-wave-preserved
loop-wave-preserved g c = record {
  count = search rules;
  rolling = rolling_more g.F.Fleet.has g.F.Fleet.stands c.args.waves.now c.args.fleet.now _ c.loop-wave.wave-index c.wave-item.result c.loop-wave.asked c.roll_wave-asked.result
      c.loop-wave.fleet _ _ _ c.loop-wave.invariant.rolling c.if-asked.false c.loop-wave-test.true c.wave-item.is
      (same_number g.F.Fleet.has g.F.Fleet.stands c.args.waves.now c.args.fleet.now [] c.wave-item.result c.loop-wave.invariant.count refl c.roll_wave-asked.ensures);
}

pub returns : goal.returns
returns g c =
    rolling_ends g.F.Fleet.has g.F.Fleet.stands c.args.waves.now c.args.fleet.now _ c.loop-wave.wave-index c.loop-wave.asked c.loop-wave.fleet _ _
    c.loop-wave.invariant.rolling c.loop-wave-test.false (rolled_at false c.loop-wave.invariant.count)
