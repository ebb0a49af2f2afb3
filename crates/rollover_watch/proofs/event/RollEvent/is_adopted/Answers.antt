use Rattle.std.proofs.Common.{◌∙◌, sym, ap}
use Rattle.rollover_watch.specs.Watches.{is_adopted}
use Rattle.rollover_watch.proofs.event.RollEvent.is_adopted.Goals as goal

pub returns-in-Start : goal.returns-in-Start
returns-in-Start c = c.is_memory.ensures c.in-Start.leaf ∙ sym (ap is_adopted c.in-Start.is)
