use Rattle.std.proofs.Common.{rules, IsTrue, sym, subst}
use Rattle.region_head.proofs.Moments.{flag_closes}
use Rattle.region_head.proofs.region.close_flag.Goals as goal

pub returns-clause-moments : goal.returns-clause-moments
returns-clause-moments g c =
    λ told open_flag.
    let a = g.B.Berth.meaning c.args.berth.now in
    let b = g.B.Berth.meaning c.region_write.new.self in
    let told_b : IsTrue b.tells = subst IsTrue (sym c.region_write.ensures.time.tells) told in
    let laws = g.met.B.Berth g.world.𝓛 g.world.𝓜 g.world.𝓡 ((λ s x. x), (λ x. x), (λ x. x), λ x. x) in
    flag_closes c.region_write.result a b open_flag (λ p left. laws.keeps_region c.args.berth.now p told left) (λ p left. laws.keeps_region c.region_write.new.self p told_b left)
    c.region_write.ensures.time (search rules)
