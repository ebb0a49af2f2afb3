use Rattle.std.proofs.Common.{rules}
use Rattle.turnstile.proofs.Entering.{draws}
use Rattle.turnstile.proofs.steps.draw.Goals as goal

pub fetch_add-requires : goal.fetch_add-requires
fetch_add-requires g c = (search rules, search rules, draws g.O.Object.legal g.O.Object.stands c.args.turns.now.key.base _ _ _ c.requires.rests.0 c.requires.rests.1)
