use Rattle.std.proofs.Common.{rules, ◌∷◌, sym, ap, ◌∙◌, Some}
use Rattle.atomic_table.specs.Table.{rest}
use Rattle.turnstile.proofs.Calling.{found_some, is_some, entered, room_of_caller}
use Rattle.turnstile.proofs.steps.enter.Goals as goal

pub exchange-requires : goal.exchange-requires
exchange-requires g c = let come = c.wait.ensures.turn c.args.turns.now.key.base (ap (λ m. m.0.base) c.draw-ticket.ensures.view ∙ c.requires.base) in
    (search rules, (_, come.slot ∙ ap (λ cs. (0, Some come.value) ∷ rest cs) (sym come.slot)))

pub unwrap-requires : goal.unwrap-requires
unwrap-requires g c = let come = c.wait.ensures.turn c.args.turns.now.key.base (ap (λ m. m.0.base) c.draw-ticket.ensures.view ∙ c.requires.base) in
    is_some _ come.value (found_some _ come.value _ _ come.slot c.exchange.ensures.2)

pub returns-clause-turn : goal.returns-clause-turn
returns-clause-turn g c = let come = c.wait.ensures.turn c.args.turns.now.key.base (ap (λ m. m.0.base) c.draw-ticket.ensures.view ∙ c.requires.base) in
    entered g.O.Object.legal g.O.Object.stands _ _ _ _ _ _ _ _ c.draw-ticket.ensures.view come c.exchange.ensures.2 c.exchange.ensures.3 (search rules)
    (room_of_caller g.O.Object.legal g.O.Object.stands c.args.place.now.table_id c.args.place.now.me.0 c.requires.room.1 c.draw-ticket.ensures.room)
