use Rattle.std.proofs.Common.{rules, ap, ◌∙◌}
use Rattle.turnstile.specs.Views.{view_joined}
use Rattle.turnstile.proofs.Moving.{joins, meets}
use Rattle.turnstile.proofs.Calling.{joined_of, learned_of, rested_after, ids_after}
use Rattle.turnstile.proofs.steps.take_over.Goals as goal

pub join_seat-requires : goal.join_seat-requires
join_seat-requires g c = let was = c.requires.rests.0 in let other = c.requires.rests.1 in (search rules, search rules, other.slots, search rules, joins g.O.Object.legal g.O.Object.stands c.args.turns.now.key.base _ _ _ _ other.stage other.other was.other)

pub load-requires : goal.load-requires
load-requires g c = (search rules, search rules, meets g.O.Object.legal g.O.Object.stands c.args.turns.now.key.base _ _ _ (ap (λ m. m.0.stage) c.join_seat.ensures.2 ∙ c.requires.rests.0.stage))

pub returns-clause-rests : goal.returns-clause-rests
returns-clause-rests g c = let v = c.args.place.now.me.0 in let u = c.args.other.me.0 in
    rested_after g.O.Object.legal g.O.Object.stands v u c.join_seat.new.seat.me _ c.requires.rests.0.stage (c.join_seat.ensures.2 ∙ ap (λ cs. (view_joined v u, cs)) c.requires.rests.0.slots) c.load.ensures.2

pub returns-clause-ids : goal.returns-clause-ids
returns-clause-ids g c = ids_after g.O.Object.legal g.O.Object.stands _ _ c.load.ensures.2

pub returns-clause-joined : goal.returns-clause-joined
returns-clause-joined g c = joined_of g.O.Object.legal g.O.Object.stands _ _ c.args.other.table_id c.args.place.now.me.0 c.args.other.me.0 c.join_seat.new.seat.me _ (c.load.ensures.0 ∙ c.join_seat.ensures.0) (ap (λ m. m.0) c.join_seat.ensures.2) c.load.ensures.2

pub returns-clause-learned : goal.returns-clause-learned
returns-clause-learned g c = learned_of g.O.Object.legal g.O.Object.stands c.args.place.now.table_id c.args.place.now.me.0 c.args.other.me.0 c.join_seat.new.seat.me _ (ap (λ m. m.0) c.join_seat.ensures.2) c.load.ensures.2
