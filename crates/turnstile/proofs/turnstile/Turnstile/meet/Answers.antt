use Rattle.std.proofs.Common.{sym, ap, ◌∙◌, subst}
use Rattle.turnstile.specs.Seats.{LearnsOthers, SeesAlso}
use Rattle.turnstile.specs.Places.{standing, standing_of}
use Rattle.turnstile.proofs.Calling.{met_both}
use Rattle.turnstile.proofs.turnstile.Turnstile.meet.Goals as goal

pub returns-clause-same : goal.returns-clause-same
returns-clause-same g c =
    let from = c.tell.ensures.from in
    let b = standing_of c.b.inside.place in
    let b' = standing_of c.tell.new.to in
    let told = subst (λ s. SeesAlso b s b') (λ i. standing (sym from.0 i) (sym from.1 i).0) c.tell.ensures.told in
    (met_both (standing_of c.tell.new.from) b (standing_of c.tell-2.new.to) b' told c.tell-2.ensures.told).1 ∙ sym (ap (λ m. m.0.seen) c.tell-2.ensures.from.1)

pub returns-clause-others : goal.returns-clause-others
returns-clause-others g c =
    let from = c.tell.ensures.from in
    let after = c.tell-2.ensures.from in
    let b = standing_of c.b.inside.place in (
      subst (λ s. LearnsOthers s (standing_of c.tell-2.new.to)) ((λ i. standing (from.0 i) (from.1 i).0) ∙ c.a.view_is) c.tell-2.ensures.learned,
      subst (λ s. LearnsOthers s (standing_of c.tell-2.new.from)) c.b.view_is (subst (λ s. LearnsOthers b s) (λ i. standing (sym after.0 i) (sym after.1 i).0) c.tell.ensures.learned),
    )
