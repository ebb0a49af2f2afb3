use Rattle.std.proofs.Common.{IsTrue, sym, subst}
use Rattle.berth_face.specs.Berth.{Pair, IsClosed}
use Rattle.adopt.proofs.Ending.{ended_on, untouched_disks}
use Rattle.region_head.proofs.Moments.{closed_after, short_after}
use Rattle.adopt.proofs.adopting.take_span.Goals as goal

pub returns-in_err-cut-clause-moments : goal.returns-in_err-cut-clause-moments
returns-in_err-cut-clause-moments g c =
    λ told closed.
    let a = g.B.Berth.meaning c.args.berth.now in
    let b = g.B.Berth.meaning c.read_piece.new.berth in
    let d = g.B.Berth.meaning c.cut.new.berth in
    let told_b : IsTrue b.tells = subst IsTrue (sym c.read_piece.ensures.untouched.time.tells) told in
    let closed_b = subst (λ (p : Pair). IsClosed p.region) (sym (c.read_piece.ensures.untouched.stays told).held) closed in
    let laws = g.met.B.Berth g.world.𝓛 g.world.𝓜 g.world.𝓡 ((λ s x. x), (λ x. x), (λ x. x), λ x. x) in
    closed_after a b d closed (λ p left. laws.keeps_region c.args.berth.now p told left) c.read_piece.ensures.untouched.time (c.read_piece.ensures.untouched.stays told) (c.cut.ensures.moments told_b closed_b)

pub returns-in_err-cut-clause-disks : goal.returns-in_err-cut-clause-disks
returns-in_err-cut-clause-disks g c =
    λ told.
    let a = g.B.Berth.meaning c.args.berth.now in
    let b = g.B.Berth.meaning c.read_piece.new.berth in
    let d = g.B.Berth.meaning c.cut.new.berth in
    let told_b : IsTrue b.tells = subst IsTrue (sym c.read_piece.ensures.untouched.time.tells) told in
    ended_on a b d (untouched_disks a b c.read_piece.ensures.untouched told) (c.cut.ensures.disks told_b)

pub returns-clause-disks : goal.returns-clause-disks
returns-clause-disks g c =
    λ told.
    let a = g.B.Berth.meaning c.args.berth.now in
    let b = g.B.Berth.meaning c.read_piece.new.berth in
    let d = g.B.Berth.meaning c.cut.new.berth in
    let told_b : IsTrue b.tells = subst IsTrue (sym c.read_piece.ensures.untouched.time.tells) told in
    ended_on a b d (untouched_disks a b c.read_piece.ensures.untouched told) (c.cut.ensures.disks told_b)

pub returns-clause-moments : goal.returns-clause-moments
returns-clause-moments g c =
    λ told closed.
    let a = g.B.Berth.meaning c.args.berth.now in
    let b = g.B.Berth.meaning c.read_piece.new.berth in
    let d = g.B.Berth.meaning c.cut.new.berth in
    let told_b : IsTrue b.tells = subst IsTrue (sym c.read_piece.ensures.untouched.time.tells) told in
    let closed_b = subst (λ (p : Pair). IsClosed p.region) (sym (c.read_piece.ensures.untouched.stays told).held) closed in
    let laws = g.met.B.Berth g.world.𝓛 g.world.𝓜 g.world.𝓡 ((λ s x. x), (λ x. x), (λ x. x), λ x. x) in
    closed_after a b d closed (λ p left. laws.keeps_region c.args.berth.now p told left) c.read_piece.ensures.untouched.time (c.read_piece.ensures.untouched.stays told) (c.cut.ensures.moments told_b closed_b)

pub returns-in_err-cut-clause-inside : goal.returns-in_err-cut-clause-inside
returns-in_err-cut-clause-inside g c =
    λ told.
    let a = g.B.Berth.meaning c.args.berth.now in
    let b = g.B.Berth.meaning c.read_piece.new.berth in
    let d = g.B.Berth.meaning c.cut.new.berth in
    let told_b : IsTrue b.tells = subst IsTrue (sym c.read_piece.ensures.untouched.time.tells) told in
    let laws = g.met.B.Berth g.world.𝓛 g.world.𝓜 g.world.𝓡 ((λ s x. x), (λ x. x), (λ x. x), λ x. x) in
    short_after a b d (λ r stands. (laws.region_now c.args.berth.now r told).0 stands) c.read_piece.ensures.untouched.time (c.read_piece.ensures.untouched.stays told) (c.cut.ensures.inside told_b)

pub returns-clause-inside : goal.returns-clause-inside
returns-clause-inside g c =
    λ told.
    let a = g.B.Berth.meaning c.args.berth.now in
    let b = g.B.Berth.meaning c.read_piece.new.berth in
    let d = g.B.Berth.meaning c.cut.new.berth in
    let told_b : IsTrue b.tells = subst IsTrue (sym c.read_piece.ensures.untouched.time.tells) told in
    let laws = g.met.B.Berth g.world.𝓛 g.world.𝓜 g.world.𝓡 ((λ s x. x), (λ x. x), (λ x. x), λ x. x) in
    short_after a b d (λ r stands. (laws.region_now c.args.berth.now r told).0 stands) c.read_piece.ensures.untouched.time (c.read_piece.ensures.untouched.stays told) (c.cut.ensures.inside told_b)
