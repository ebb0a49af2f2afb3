use Rattle.std.proofs.Common.{refl, sym, subst, le_refl}
use Rattle.leaf_steward.specs.Seated.{Seated}
use Rattle.leaf_steward.specs.Making.{Makes}
use Rattle.leaf_machine.specs.Prepares.{seats_of_step}
use Rattle.leaf_machine.proofs.PrepCopies.{err_step}
use Rattle.leaf_machine.proofs.preparing.Preparing.step.Goals as goal

pub returns-then-is_treated-clause-made : goal.returns-then-is_treated-clause-made
returns-then-is_treated-clause-made g c =
    let clock = (g.B.Berth.meaning c.args.self.1).clock in
    let seats = c.args.self.0.serving.seated in
    let now : Seated = seats_of_step c.copied.result in
    subst (λ b. Makes clock (g.B.Berth.meaning b).clock seats c.clear.new.self now) (sym c.copied.ensures.berth)
    (Makes.none clock clock seats c.clear.new.self now (le_refl clock) c.clear.ensures c.copied.ensures.seats)

pub returns-in-Err-clause-step : goal.returns-in-Err-clause-step
returns-in-Err-clause-step g c = err_step c.args.self.0 c.treat_next.new.self.0 c.treat_next.new.self.1 c.treat_next.new.notes c.in-Err.fault (c.if-is_treated.ensures.more refl) c.in-Err.ensures.next
