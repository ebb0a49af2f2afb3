use Rattle.std.proofs.Common.{◌≡◌, map}
use Rattle.rollover_driver.proofs.Waves.{IsRolling}
use Rattle.rollover_driver.proofs.driving.roll_all.Given as goal

abbrev pub invariant-loop-wave : goal.invariant-loop-wave
invariant-loop-wave g l = record {
  count : l.begun ≡ l.wave-index;
  rolling : IsRolling g.F.Fleet.has g.F.Fleet.stands l.waves
      l.fn.fleet
      (map (λ b. (goal.Watch-dyn g (b.vtable, b.value)).held b.value) l.fn.watches.items)
      l.wave-index
      l.asked
      l.fleet
      (map (λ b. (goal.Watch-dyn g (b.vtable, b.value)).held b.value) l.watches.items);
}
