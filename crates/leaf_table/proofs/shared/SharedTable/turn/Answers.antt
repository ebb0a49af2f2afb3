use Rattle.std.proofs.Common.{ap, sym, subst}
use Rattle.turnstile.specs.Seats.{Site}
use Rattle.leaf_table.specs.declared.base.Origin.{Origin}
use Rattle.leaf_table.specs.Turns.{Shared, is_founded, MayNow}
use Rattle.leaf_table.specs.Calls.{state_seen, MadeTurn}
use Rattle.leaf_table.proofs.Knowing.{may_call, made_turn}
use Rattle.leaf_table.proofs.shared.SharedTable.turn.Goals as goal

pub call-answer-requires-clause-may : goal.call-answer-requires-clause-may
call-answer-requires-clause-may g c κs within = λ between others legal.
    let b = c.self.inside.turns.base in
    let may = subst (λ (s : Site Origin). MayNow (is_founded s.base.base) (state_seen s.base.base c.args.seat.now) c.args.seat.now.id c.args.turn) (sym (ap (λ (t : Shared). t.site) c.self.view_is)) c.requires.may in
    may_call b.name.value b.base c.args.seat.now c.args.turn c.requires.seat.has_id may between others legal

pub returns-clause-made : goal.returns-clause-made
returns-clause-made g c =
    let called = c.call-answer.ensures.call in
    let b = c.self.inside.turns.base in
    subst (λ (s : Site Origin). MadeTurn s.base.name.value s.base.base g.C.Clock.now c.args.seat.now c.args.turn c.call-answer.result c.call-answer.new.seat) (ap (λ (t : Shared). t.site) c.self.view_is) (made_turn _ _ b.name.value b.base g.C.Clock.now _ c.args.turn _ _ called called.is_legal)
