use Rattle.std.proofs.Common.{◌∙◌, sym, ap}
use Rattle.rollover_watch.specs.Watches.{is_drained}
use Rattle.rollover_watch.proofs.event.RollEvent.is_drained.Goals as goal

pub returns-in-Drain : goal.returns-in-Drain
returns-in-Drain c = c.is_done.ensures c.in-Drain.leaf ∙ sym (ap is_drained c.in-Drain.is)
