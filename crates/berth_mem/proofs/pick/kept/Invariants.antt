use Rattle.std.proofs.Common.{◌≤◌, ◌-◌, take, drop}
use Rattle.berth_mem.specs.Picked.{Unsynced}
use Rattle.berth_mem.proofs.pick.kept.Given as goal

abbrev pub invariant-loop-from : goal.invariant-loop-from
invariant-loop-from l = record { within : l.from ≤ l.k; unsynced : Unsynced (take (l.k - l.from) (drop l.from l.calls)) }

abbrev pub decreases-loop-from : goal.decreases-loop-from
decreases-loop-from l = l.from
