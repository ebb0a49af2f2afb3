use Rattle.std.proofs.Common.{rules, [], ◌∷◌, length, IsTrue, sym, subst, arith}
use Rattle.berth_face.proofs.Moments.{meanwhile_here}
use Rattle.drain_copy.specs.Regions.{IsWithin}
use Rattle.drain_copy.proofs.Moments.{flag_opened, within_write}
use Rattle.drain_copy.proofs.region_calls.open.Goals as goal

pub returns-clause-moments : goal.returns-clause-moments
returns-clause-moments g c =
    λ told all.
    let a = g.B.Berth.meaning c.args.berth.now in
    let b = g.B.Berth.meaning c.region_write.new.self in
    let told_b : IsTrue b.tells = subst IsTrue (sym c.region_write.ensures.time.tells) told in
    let laws = g.met.B.Berth g.world.𝓛 g.world.𝓜 g.world.𝓡 ((λ s x. x), (λ x. x), (λ x. x), λ x. x) in
    flag_opened c.region_write.result a b all (λ p left. laws.keeps_region c.region_write.new.self p told_b left) c.region_write.ensures.time (search rules)

pub returns-clause-inside : goal.returns-clause-inside
returns-clause-inside g c =
    λ told some.
    let a = g.B.Berth.meaning c.args.berth.now in
    let b = g.B.Berth.meaning c.region_write.new.self in
    let told_b : IsTrue b.tells = subst IsTrue (sym c.region_write.ensures.time.tells) told in
    let laws = g.met.B.Berth g.world.𝓛 g.world.𝓜 g.world.𝓡 ((λ s x. x), (λ x. x), (λ x. x), λ x. x) in
    let n = length a.held.region in
    within_write n 0 (1 ∷ []) c.region_write.result a a b (omega arith) some (meanwhile_here a (IsWithin n) (λ r stands. (laws.region_now c.args.berth.now r told).0 stands) (omega arith))
    (λ r stands. (laws.region_now c.region_write.new.self r told_b).0 stands) c.region_write.ensures.time (search rules)
