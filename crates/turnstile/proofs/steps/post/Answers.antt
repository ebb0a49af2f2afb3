use Rattle.std.proofs.Common.{rules}
use Rattle.turnstile.proofs.Leaving.{posts}
use Rattle.turnstile.proofs.steps.post.Goals as goal

pub fetch_add-requires : goal.fetch_add-requires
fetch_add-requires g c = let said = c.requires.said in (
  search rules,
  search rules,
  posts g.O.Object.legal g.O.Object.stands c.args.turns.now.key.base _ _ c.args.ticket _ _ said.0 said.1 c.requires.turn.0 said.2 c.requires.turn.1 c.args.turns.now.key.base c.requires.turn.2 said.3,
)

pub returns-clause-posted : goal.returns-clause-posted
returns-clause-posted g c = λ e q. let t = c.fetch_add.ensures.2 c.args.ticket e c.requires.turn.0 q in (t.0, (λ i. (t.1 i, t.2 i)), t.3, t.4, t.5)

pub returns-clause-ids : goal.returns-clause-ids
returns-clause-ids g c = let said = c.requires.said in let t = c.fetch_add.ensures.2 c.args.ticket said.0 c.requires.turn.0 said.1 in t.6
