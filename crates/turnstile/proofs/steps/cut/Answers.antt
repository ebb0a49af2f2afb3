use Rattle.std.proofs.Common.{rules}
use Rattle.turnstile.proofs.Moving.{splits}
use Rattle.turnstile.proofs.steps.cut.Goals as goal

pub split_seat-requires : goal.split_seat-requires
split_seat-requires g c = (search rules, search rules, splits g.O.Object.legal g.O.Object.stands c.args.turns.now.key.base _ _ _ c.requires.rests.0 c.requires.share c.requires.rests.1)
