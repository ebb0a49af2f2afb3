use Rattle.std.proofs.Common.{◌≡◌, ◌+◌, ◌++◌, ◌≤◌, ◌∙◌, List, ℕ, length, IsTrue, sym, subst, arith, length-append}
use Rattle.berth_face.proofs.Moments.{meanwhile_here}
use Rattle.drain_copy.specs.Regions.{EndsAt, IsWithin}
use Rattle.drain_copy.proofs.Closed.{end_whole, ends_after}
use Rattle.drain_copy.proofs.Moments.{appended, head_written, within_write}
use Rattle.drain_copy.proofs.region_calls.finish.Goals as goal

pub returns-in_err-region_write-clause-moments : goal.returns-in_err-region_write-clause-moments
returns-in_err-region_write-clause-moments g c =
    λ told ends all.
    let a = g.B.Berth.meaning c.args.berth.now in
    let b = g.B.Berth.meaning c.region_write.new.self in
    let told_b : IsTrue b.tells = subst IsTrue (sym c.region_write.ensures.time.tells) told in
    let laws = g.met.B.Berth g.world.𝓛 g.world.𝓜 g.world.𝓡 ((λ s x. x), (λ x. x), (λ x. x), λ x. x) in
    let some : 1 ≤ c.args.at = omega (arith, c.requires.at) in
    appended c.region_write.result c.args.at a b some ends (end_whole c.args.at c.args.directory.now a.held.region ends) all
    (λ p left. laws.keeps_region c.region_write.new.self p told_b left) c.region_write.ensures.time (c.region_write.ensures.told told)

pub returns-clause-moments : goal.returns-clause-moments
returns-clause-moments g c =
    λ told ends all.
    let a = g.B.Berth.meaning c.args.berth.now in
    let b = g.B.Berth.meaning c.region_write.new.self in
    let d = g.B.Berth.meaning c.region_write-2.new.self in
    let told_b : IsTrue b.tells = subst IsTrue (sym c.region_write.ensures.time.tells) told in
    let told_d : IsTrue d.tells = subst IsTrue (sym c.region_write-2.ensures.time.tells) told_b in
    let laws = g.met.B.Berth g.world.𝓛 g.world.𝓜 g.world.𝓡 ((λ s x. x), (λ x. x), (λ x. x), λ x. x) in
    let some : 1 ≤ c.args.at = omega (arith, c.requires.at) in
    let n = c.args.at + length c.args.directory.now in
    let first = appended c.region_write.result c.args.at a b some ends (end_whole c.args.at c.args.directory.now a.held.region ends) all
    (λ p left. laws.keeps_region c.region_write.new.self p told_b left) c.region_write.ensures.time (c.region_write.ensures.told told) in
    let whole : b.held.region ≡ a.held.region ++ c.args.directory.now =
    (c.in_ok-region_write.ensures.told told).ok ∙ end_whole c.args.at c.args.directory.now a.held.region ends in
    let now : EndsAt n b.held.region = subst (EndsAt n) (sym whole) (ends_after c.args.at c.args.directory.now a.held.region some ends) in
    head_written c.region_write-2.result n a b d c.requires.head now first (λ p left. laws.keeps_region c.region_write-2.new.self p told_d left)
    c.region_write-2.ensures.time (c.region_write-2.ensures.told told_b)

pub returns-in_err-region_write-clause-inside : goal.returns-in_err-region_write-clause-inside
returns-in_err-region_write-clause-inside g c =
    λ told ends.
    let a = g.B.Berth.meaning c.args.berth.now in
    let b = g.B.Berth.meaning c.region_write.new.self in
    let told_b : IsTrue b.tells = subst IsTrue (sym c.region_write.ensures.time.tells) told in
    let laws = g.met.B.Berth g.world.𝓛 g.world.𝓜 g.world.𝓡 ((λ s x. x), (λ x. x), (λ x. x), λ x. x) in
    let n = c.args.at + length c.args.directory.now in
    let fits : length a.held.region ≤ n = omega (arith, ends.0) in
    within_write n c.args.at c.args.directory.now c.region_write.result a a b fits (omega arith) (meanwhile_here a (IsWithin n) (λ r stands. (laws.region_now c.args.berth.now r told).0 stands) fits)
    (λ r stands. (laws.region_now c.region_write.new.self r told_b).0 stands) c.region_write.ensures.time (c.region_write.ensures.told told)

pub returns-clause-inside : goal.returns-clause-inside
returns-clause-inside g c =
    λ told ends.
    let a = g.B.Berth.meaning c.args.berth.now in
    let b = g.B.Berth.meaning c.region_write.new.self in
    let d = g.B.Berth.meaning c.region_write-2.new.self in
    let told_b : IsTrue b.tells = subst IsTrue (sym c.region_write.ensures.time.tells) told in
    let told_d : IsTrue d.tells = subst IsTrue (sym c.region_write-2.ensures.time.tells) told_b in
    let laws = g.met.B.Berth g.world.𝓛 g.world.𝓜 g.world.𝓡 ((λ s x. x), (λ x. x), (λ x. x), λ x. x) in
    let n = c.args.at + length c.args.directory.now in
    let fits : length a.held.region ≤ n = omega (arith, ends.0) in
    let first = within_write n c.args.at c.args.directory.now c.region_write.result a a b fits (omega arith) (meanwhile_here a (IsWithin n) (λ r stands. (laws.region_now c.args.berth.now r told).0 stands) fits)
    (λ r stands. (laws.region_now c.region_write.new.self r told_b).0 stands) c.region_write.ensures.time (c.region_write.ensures.told told) in
    let whole : b.held.region ≡ a.held.region ++ c.args.directory.now =
    (c.in_ok-region_write.ensures.told told).ok ∙ end_whole c.args.at c.args.directory.now a.held.region ends in
    let long : length b.held.region ≤ n = subst (λ (l : List ℕ). length l ≤ n) (sym whole) (omega (arith, ends.0, length-append a.held.region c.args.directory.now)) in
    within_write n 1 c.args.head.now c.region_write-2.result a b d long (omega (arith, c.requires.at, c.requires.head)) first (λ r stands. (laws.region_now c.region_write-2.new.self r told_d).0 stands)
    c.region_write-2.ensures.time (c.region_write-2.ensures.told told_b)
