use Rattle.std.proofs.Common.{◌-◌, vec_len, map}
use Rattle.rollover_watch.proofs.Tellings.{IsTelling}
use Rattle.rollover_watch.proofs.telling.tell_all.Given as goal

abbrev pub invariant-loop-place : goal.invariant-loop-place
invariant-loop-place g l =
    IsTelling l.event
    (map (λ b. (goal.Watch-dyn g (b.vtable, b.value)).held b.value) l.fn.watches.items)
    (map (λ b. (goal.Watch-dyn g (b.vtable, b.value)).held b.value) l.watches.items)
    l.place
    l.halted

abbrev pub decreases-loop-place : goal.decreases-loop-place
decreases-loop-place g l = vec_len l.watches - l.place
