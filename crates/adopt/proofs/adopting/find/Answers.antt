use Rattle.std.proofs.Common.{◌≡◌, rules, IsTrue, sym, subst}
use Rattle.region_head.specs.declared.head.Head.TheVariants.{Version}
use Rattle.region_head.specs.Head.{head_of}
use Rattle.region_head.proofs.Heads.{closed_head}
use Rattle.region_head.specs.Closing.{IsOpenRegion}
use Rattle.adopt.proofs.Ending.{ended_on, untouched_disks}
use Rattle.region_head.proofs.Moments.{adopts_stay, adopts_after}
use Rattle.adopt.proofs.adopting.find.Goals as goal

pub returns-in-Version-clause-disks : goal.returns-in-Version-clause-disks
returns-in-Version-clause-disks g c =
    λ told.
    let a = g.B.Berth.meaning c.args.berth.now in
    let b = g.B.Berth.meaning c.read_front.new.berth in
    let d = g.B.Berth.meaning c.find_open.new.berth in
    let told_b : IsTrue b.tells = subst IsTrue (sym c.read_front.ensures.untouched.time.tells) told in
    ended_on a b d (untouched_disks a b c.read_front.ensures.untouched told) (c.find_open.ensures.disks told_b)

pub returns-in_err-front-clause-moments : goal.returns-in_err-front-clause-moments
returns-in_err-front-clause-moments g c =
    λ told.
    let a = g.B.Berth.meaning c.args.berth.now in
    let b = g.B.Berth.meaning c.read_front.new.berth in
    let laws = g.met.B.Berth g.world.𝓛 g.world.𝓜 g.world.𝓡 ((λ s x. x), (λ x. x), (λ x. x), λ x. x) in
    adopts_stay a b (λ p left. laws.keeps_region c.args.berth.now p told left) c.read_front.ensures.untouched.time (c.read_front.ensures.untouched.stays told)

pub returns-in-NoHead-clause-moments : goal.returns-in-NoHead-clause-moments
returns-in-NoHead-clause-moments g c =
    λ told.
    let a = g.B.Berth.meaning c.args.berth.now in
    let b = g.B.Berth.meaning c.read_front.new.berth in
    let laws = g.met.B.Berth g.world.𝓛 g.world.𝓜 g.world.𝓡 ((λ s x. x), (λ x. x), (λ x. x), λ x. x) in
    adopts_stay a b (λ p left. laws.keeps_region c.args.berth.now p told left) c.read_front.ensures.untouched.time (c.read_front.ensures.untouched.stays told)

pub returns-in-Closed-clause-moments : goal.returns-in-Closed-clause-moments
returns-in-Closed-clause-moments g c =
    λ told.
    let a = g.B.Berth.meaning c.args.berth.now in
    let b = g.B.Berth.meaning c.read_front.new.berth in
    let laws = g.met.B.Berth g.world.𝓛 g.world.𝓜 g.world.𝓡 ((λ s x. x), (λ x. x), (λ x. x), λ x. x) in
    adopts_stay a b (λ p left. laws.keeps_region c.args.berth.now p told left) c.read_front.ensures.untouched.time (c.read_front.ensures.untouched.stays told)

pub returns-in-Version-clause-moments : goal.returns-in-Version-clause-moments
returns-in-Version-clause-moments g c =
    λ told.
    let a = g.B.Berth.meaning c.args.berth.now in
    let b = g.B.Berth.meaning c.read_front.new.berth in
    let d = g.B.Berth.meaning c.find_open.new.berth in
    let told_b : IsTrue b.tells = subst IsTrue (sym c.read_front.ensures.untouched.time.tells) told in
    let laws = g.met.B.Berth g.world.𝓛 g.world.𝓜 g.world.𝓡 ((λ s x. x), (λ x. x), (λ x. x), λ x. x) in
    let opened : head_of b.held.region ≡ Version c.in-Version.version = search rules in
    let open_flag : IsOpenRegion b.held.region = λ closed. closed_head b.held.region closed c.in-Version.version opened in
    adopts_after a b d (λ p left. laws.keeps_region c.args.berth.now p told left) c.read_front.ensures.untouched.time (c.read_front.ensures.untouched.stays told) (c.find_open.ensures.moments told_b open_flag)
