use Rattle.std.proofs.Common.{◌≡◌, ℕ, List, [], ◌∷◌, ◌∙◌, length, IsTrue, ap, sym, subst, arith}
use Rattle.berth_face.specs.Berth.{IsClosed, written}
use Rattle.drain_copy.proofs.Moments.{emptied, flag_shut, behind_flag, cut_empties, begun_write}
use Rattle.drain_copy.proofs.region_calls.begin.Goals as goal

pub returns-in_err-region_cut-clause-moments : goal.returns-in_err-region_cut-clause-moments
returns-in_err-region_cut-clause-moments g c =
    λ told all.
    let a = g.B.Berth.meaning c.args.berth.now in
    let b = g.B.Berth.meaning c.region_cut.new.self in
    let told_b : IsTrue b.tells = subst IsTrue (sym c.region_cut.ensures.time.tells) told in
    let laws = g.met.B.Berth g.world.𝓛 g.world.𝓜 g.world.𝓡 ((λ s x. x), (λ x. x), (λ x. x), λ x. x) in
    let closed : IsClosed a.held.region = all a.held (laws.stands c.args.berth.now told) in
    emptied c.region_cut.result a b all closed (λ p left. laws.keeps_region c.region_cut.new.self p told_b left) c.region_cut.ensures.time (c.region_cut.ensures.told told)

pub returns-in_err-region_write-clause-moments : goal.returns-in_err-region_write-clause-moments
returns-in_err-region_write-clause-moments g c =
    λ told all.
    let a = g.B.Berth.meaning c.args.berth.now in
    let b = g.B.Berth.meaning c.region_cut.new.self in
    let d = g.B.Berth.meaning c.region_write.new.self in
    let told_b : IsTrue b.tells = subst IsTrue (sym c.region_cut.ensures.time.tells) told in
    let told_d : IsTrue d.tells = subst IsTrue (sym c.region_write.ensures.time.tells) told_b in
    let laws = g.met.B.Berth g.world.𝓛 g.world.𝓜 g.world.𝓡 ((λ s x. x), (λ x. x), (λ x. x), λ x. x) in
    let closed : IsClosed a.held.region = all a.held (laws.stands c.args.berth.now told) in
    let first = emptied c.region_cut.result a b all closed (λ p left. laws.keeps_region c.region_cut.new.self p told_b left) c.region_cut.ensures.time (c.region_cut.ensures.told told) in
    flag_shut c.region_write.result a b d (c.in_ok-region_cut.ensures.told told).ok first (λ p left. laws.keeps_region c.region_write.new.self p told_d left)
    c.region_write.ensures.time (c.region_write.ensures.told told_b)

pub returns-clause-moments : goal.returns-clause-moments
returns-clause-moments g c =
    λ told all.
    let a = g.B.Berth.meaning c.args.berth.now in
    let b = g.B.Berth.meaning c.region_cut.new.self in
    let d = g.B.Berth.meaning c.region_write.new.self in
    let e = g.B.Berth.meaning c.region_write-2.new.self in
    let told_b : IsTrue b.tells = subst IsTrue (sym c.region_cut.ensures.time.tells) told in
    let told_d : IsTrue d.tells = subst IsTrue (sym c.region_write.ensures.time.tells) told_b in
    let told_e : IsTrue e.tells = subst IsTrue (sym c.region_write-2.ensures.time.tells) told_d in
    let laws = g.met.B.Berth g.world.𝓛 g.world.𝓜 g.world.𝓡 ((λ s x. x), (λ x. x), (λ x. x), λ x. x) in
    let closed : IsClosed a.held.region = all a.held (laws.stands c.args.berth.now told) in
    let empty : b.held.region ≡ [] = (c.in_ok-region_cut.ensures.told told).ok in
    let shut : d.held.region ≡ 0 ∷ [] = (c.in_ok-region_write.ensures.told told_b).ok ∙ ap (written 0 (0 ∷ [])) empty in
    let first = emptied c.region_cut.result a b all closed (λ p left. laws.keeps_region c.region_cut.new.self p told_b left) c.region_cut.ensures.time (c.region_cut.ensures.told told) in
    let second =
    flag_shut c.region_write.result a b d empty first (λ p left. laws.keeps_region c.region_write.new.self p told_d left) c.region_write.ensures.time (c.region_write.ensures.told told_b) in
    behind_flag c.region_write-2.result [] a d e shut second (λ p left. laws.keeps_region c.region_write-2.new.self p told_e left) c.region_write-2.ensures.time (c.region_write-2.ensures.told told_d)

pub returns-in_err-region_cut-clause-begun : goal.returns-in_err-region_cut-clause-begun
returns-in_err-region_cut-clause-begun g c =
    λ told.
    let a = g.B.Berth.meaning c.args.berth.now in
    let b = g.B.Berth.meaning c.region_cut.new.self in
    let told_b : IsTrue b.tells = subst IsTrue (sym c.region_cut.ensures.time.tells) told in
    let laws = g.met.B.Berth g.world.𝓛 g.world.𝓜 g.world.𝓡 ((λ s x. x), (λ x. x), (λ x. x), λ x. x) in
    cut_empties c.region_cut.result a b (λ r stands. (laws.region_now c.args.berth.now r told).0 stands) (λ r stands. (laws.region_now c.region_cut.new.self r told_b).0 stands)
    c.region_cut.ensures.time (c.region_cut.ensures.told told)

pub returns-in_err-region_write-clause-begun : goal.returns-in_err-region_write-clause-begun
returns-in_err-region_write-clause-begun g c =
    λ told.
    let a = g.B.Berth.meaning c.args.berth.now in
    let b = g.B.Berth.meaning c.region_cut.new.self in
    let d = g.B.Berth.meaning c.region_write.new.self in
    let told_b : IsTrue b.tells = subst IsTrue (sym c.region_cut.ensures.time.tells) told in
    let told_d : IsTrue d.tells = subst IsTrue (sym c.region_write.ensures.time.tells) told_b in
    let laws = g.met.B.Berth g.world.𝓛 g.world.𝓜 g.world.𝓡 ((λ s x. x), (λ x. x), (λ x. x), λ x. x) in
    let empty : b.held.region ≡ [] = (c.in_ok-region_cut.ensures.told told).ok in
    let first = cut_empties c.region_cut.result a b (λ r stands. (laws.region_now c.args.berth.now r told).0 stands) (λ r stands. (laws.region_now c.region_cut.new.self r told_b).0 stands)
    c.region_cut.ensures.time (c.region_cut.ensures.told told) in
    begun_write a.held.region 0 (0 ∷ []) c.region_write.result a b d (omega (arith, ap (λ (l : List ℕ). length l) empty)) (omega arith) first
    (λ r stands. (laws.region_now c.region_write.new.self r told_d).0 stands) c.region_write.ensures.time (c.region_write.ensures.told told_b)

pub returns-clause-begun : goal.returns-clause-begun
returns-clause-begun g c =
    λ told.
    let a = g.B.Berth.meaning c.args.berth.now in
    let b = g.B.Berth.meaning c.region_cut.new.self in
    let d = g.B.Berth.meaning c.region_write.new.self in
    let e = g.B.Berth.meaning c.region_write-2.new.self in
    let told_b : IsTrue b.tells = subst IsTrue (sym c.region_cut.ensures.time.tells) told in
    let told_d : IsTrue d.tells = subst IsTrue (sym c.region_write.ensures.time.tells) told_b in
    let told_e : IsTrue e.tells = subst IsTrue (sym c.region_write-2.ensures.time.tells) told_d in
    let laws = g.met.B.Berth g.world.𝓛 g.world.𝓜 g.world.𝓡 ((λ s x. x), (λ x. x), (λ x. x), λ x. x) in
    let empty : b.held.region ≡ [] = (c.in_ok-region_cut.ensures.told told).ok in
    let shut : d.held.region ≡ 0 ∷ [] = (c.in_ok-region_write.ensures.told told_b).ok ∙ ap (written 0 (0 ∷ [])) empty in
    let first = cut_empties c.region_cut.result a b (λ r stands. (laws.region_now c.args.berth.now r told).0 stands) (λ r stands. (laws.region_now c.region_cut.new.self r told_b).0 stands)
    c.region_cut.ensures.time (c.region_cut.ensures.told told) in
    let second = begun_write a.held.region 0 (0 ∷ []) c.region_write.result a b d (omega (arith, ap (λ (l : List ℕ). length l) empty)) (omega arith) first
    (λ r stands. (laws.region_now c.region_write.new.self r told_d).0 stands) c.region_write.ensures.time (c.region_write.ensures.told told_b) in
    begun_write a.held.region 1 _ c.region_write-2.result a d e (omega (arith, ap (λ (l : List ℕ). length l) shut)) (omega arith) second
    (λ r stands. (laws.region_now c.region_write-2.new.self r told_e).0 stands) c.region_write-2.ensures.time (c.region_write-2.ensures.told told_d)
