use Rattle.std.proofs.Common.{ℕ, suc, ◌<◌}
use Rattle.std.specs.Prelude.{count_by}
use Rattle.player.specs.Crew.{Spares}
use Rattle.bursts.specs.Needs.{needs_at}
use Rattle.bursts.proofs.plans.are_spare.Given as goal

abbrev pub invariant-loop-table : goal.invariant-loop-table
invariant-loop-table g l = (t : ℕ) → t < l.table → Spares l.crew.holds t (suc (count_by (needs_at t) l.plans))
