use Rattle.std.proofs.Common.{◌≡◌, true, drop, Option, IsTrue, rules, sym, ap, subst, ◌∙◌}
use Rattle.berth_face.specs.Berth.{Pair, IsClosed}
use Rattle.region_layout.specs.Region.{reads}
use Rattle.region_reading.specs.declared.looked.Looked.{Looked}
use Rattle.region_reading.specs.Reading.{LooksAt}
use Rattle.region_head.specs.Closing.{closed_flag}
use Rattle.region_head.proofs.Moments.{closed_after}
use Rattle.adopt.proofs.Looking.{none_found}
use Rattle.adopt.proofs.finding.find_closed.Goals as goal

pub returns-in-Some-clause-told : goal.returns-in-Some-clause-told
returns-in-Some-clause-told g c =
    λ region told closed opened front.
    let b = g.B.Berth.meaning c.look.new.berth in
    let told_b : IsTrue b.tells = subst IsTrue (sym c.look.ensures.untouched.time.tells) told in
    let now : b.held.region ≡ closed_flag region = ap (λ (p : Pair). p.region) (c.look.ensures.untouched.stays told).held ∙ closed in
    let read : reads c.args.version ≡ true = search rules in
    c.find_known.ensures.told region told_b now read
    (subst (λ (o : Option Looked). LooksAt c.args.version region o) c.in-Some.is (c.in_ok-looked.ensures.told region c.args.version told (ap (drop 1) closed) opened front))

pub returns-in-Some-clause-moments : goal.returns-in-Some-clause-moments
returns-in-Some-clause-moments g c =
    λ told closed.
    let a = g.B.Berth.meaning c.args.berth.now in
    let b = g.B.Berth.meaning c.look.new.berth in
    let told_b : IsTrue b.tells = subst IsTrue (sym c.look.ensures.untouched.time.tells) told in
    let closed_b = subst (λ (p : Pair). IsClosed p.region) (sym (c.look.ensures.untouched.stays told).held) closed in
    let laws = g.met.B.Berth g.world.𝓛 g.world.𝓜 g.world.𝓡 ((λ s x. x), (λ x. x), (λ x. x), λ x. x) in
    closed_after a b (g.B.Berth.meaning c.find_known.new.berth) closed (λ p left. laws.keeps_region c.args.berth.now p told left) c.look.ensures.untouched.time (c.look.ensures.untouched.stays told) (c.find_known.ensures.moments told_b closed_b)

pub returns-in-None-clause-told : goal.returns-in-None-clause-told
returns-in-None-clause-told g c =
    λ region told closed opened front.
    let b = g.B.Berth.meaning c.look.new.berth in
    let now : b.held.region ≡ closed_flag region = ap (λ (p : Pair). p.region) (c.look.ensures.untouched.stays told).held ∙ closed in
    let read : reads c.args.version ≡ true = search rules in
    none_found c.args.names.now region b.held.region c.args.version opened now read
    (subst (λ (o : Option Looked). LooksAt c.args.version region o) c.in-None.is (c.in_ok-looked.ensures.told region c.args.version told (ap (drop 1) closed) opened front))
