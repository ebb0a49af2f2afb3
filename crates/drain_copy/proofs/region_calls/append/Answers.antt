use Rattle.std.proofs.Common.{rules, ◌+◌, ◌≤◌, length, IsTrue, sym, subst, arith}
use Rattle.berth_face.proofs.Moments.{meanwhile_here}
use Rattle.drain_copy.specs.Regions.{IsWithin}
use Rattle.drain_copy.proofs.Closed.{end_whole}
use Rattle.drain_copy.proofs.Moments.{appended, within_write}
use Rattle.drain_copy.proofs.region_calls.append.Goals as goal

pub returns-clause-moments : goal.returns-clause-moments
returns-clause-moments g c =
    λ told ends all.
    let a = g.B.Berth.meaning c.args.berth.now in
    let b = g.B.Berth.meaning c.region_write.new.self in
    let told_b : IsTrue b.tells = subst IsTrue (sym c.region_write.ensures.time.tells) told in
    let laws = g.met.B.Berth g.world.𝓛 g.world.𝓜 g.world.𝓡 ((λ s x. x), (λ x. x), (λ x. x), λ x. x) in
    let some : 1 ≤ c.args.at = search rules in
    appended c.region_write.result c.args.at a b some ends (end_whole c.args.at c.args.bytes.now a.held.region ends) all
    (λ p left. laws.keeps_region c.region_write.new.self p told_b left) c.region_write.ensures.time (c.region_write.ensures.told told)

pub returns-clause-inside : goal.returns-clause-inside
returns-clause-inside g c =
    λ told ends.
    let a = g.B.Berth.meaning c.args.berth.now in
    let b = g.B.Berth.meaning c.region_write.new.self in
    let told_b : IsTrue b.tells = subst IsTrue (sym c.region_write.ensures.time.tells) told in
    let laws = g.met.B.Berth g.world.𝓛 g.world.𝓜 g.world.𝓡 ((λ s x. x), (λ x. x), (λ x. x), λ x. x) in
    let n = c.args.at + length c.args.bytes.now in
    let fits : length a.held.region ≤ n = omega (arith, ends.0) in
    within_write n c.args.at c.args.bytes.now c.region_write.result a a b fits (omega arith) (meanwhile_here a (IsWithin n) (λ r stands. (laws.region_now c.args.berth.now r told).0 stands) fits)
    (λ r stands. (laws.region_now c.region_write.new.self r told_b).0 stands) c.region_write.ensures.time (c.region_write.ensures.told told)
