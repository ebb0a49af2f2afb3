use Rattle.std.proofs.Common.{rules, IsTrue, sym, subst}
use Rattle.region_head.proofs.Moments.{region_cut, short_cut}
use Rattle.region_head.proofs.region.cut.Goals as goal

pub returns-clause-moments : goal.returns-clause-moments
returns-clause-moments g c =
    λ told closed.
    let a = g.B.Berth.meaning c.args.berth.now in
    let b = g.B.Berth.meaning c.region_cut.new.self in
    let told_b : IsTrue b.tells = subst IsTrue (sym c.region_cut.ensures.time.tells) told in
    let laws = g.met.B.Berth g.world.𝓛 g.world.𝓜 g.world.𝓡 ((λ s x. x), (λ x. x), (λ x. x), λ x. x) in
    region_cut c.region_cut.result c.args.at a b closed (λ p left. laws.keeps_region c.args.berth.now p told left) (λ p left. laws.keeps_region c.region_cut.new.self p told_b left)
    c.region_cut.ensures.time (search rules)

pub returns-clause-inside : goal.returns-clause-inside
returns-clause-inside g c =
    λ told.
    let a = g.B.Berth.meaning c.args.berth.now in
    let b = g.B.Berth.meaning c.region_cut.new.self in
    let told_b : IsTrue b.tells = subst IsTrue (sym c.region_cut.ensures.time.tells) told in
    let laws = g.met.B.Berth g.world.𝓛 g.world.𝓜 g.world.𝓡 ((λ s x. x), (λ x. x), (λ x. x), λ x. x) in
    short_cut c.region_cut.result c.args.at a b (λ r stands. (laws.region_now c.args.berth.now r told).0 stands) (λ r stands. (laws.region_now c.region_cut.new.self r told_b).0 stands)
    c.region_cut.ensures.time (search rules)
