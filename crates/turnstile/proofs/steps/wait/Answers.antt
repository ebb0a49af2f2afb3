use Rattle.std.proofs.Common.{rules, ap, ◌∙◌}
use Rattle.turnstile.proofs.Entering.{looks}
use Rattle.turnstile.proofs.steps.wait.Goals as goal

pub load-serving-requires : goal.load-serving-requires
load-serving-requires g c = let same = c.loop.invariant.1 in (
  search rules,
  search rules,
  looks g.O.Object.legal g.O.Object.stands c.args.turns.now.key.base _ _ c.args.ticket _ (ap (λ m. m.0.stage) same ∙ c.requires.waits.0) (ap (λ m. m.1) same ∙ c.requires.waits.1) (ap (λ m. m.0.other) same ∙ c.requires.waits.2),
)
