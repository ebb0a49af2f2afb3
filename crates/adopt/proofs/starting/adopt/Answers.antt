use Rattle.std.proofs.Common.{Ok, IsTrue, sym, subst}
use Rattle.adopt.specs.declared.found.Found.{Found}
use Rattle.adopt.specs.Adopting.{Finds}
use Rattle.adopt.proofs.Ending.{ended_on}
use Rattle.adopt.proofs.Started.{image_moments, none_adopted}
use Rattle.adopt.proofs.starting.adopt.Goals as goal

pub returns-in-Ready-clause-disks : goal.returns-in-Ready-clause-disks
returns-in-Ready-clause-disks g c =
    λ told.
    let a = g.B.Berth.meaning c.args.berth.now in
    let b = g.B.Berth.meaning c.find.new.berth in
    let d = g.B.Berth.meaning c.adopt_image.new.berth in
    let told_b : IsTrue b.tells = subst IsTrue (sym c.find.ensures.time.tells) told in
    ended_on a b d (c.find.ensures.disks told) (c.adopt_image.ensures.disks told_b)

pub returns-in-Ready-clause-moments : goal.returns-in-Ready-clause-moments
returns-in-Ready-clause-moments g c =
    λ told.
    let a = g.B.Berth.meaning c.args.berth.now in
    let b = g.B.Berth.meaning c.find.new.berth in
    let d = g.B.Berth.meaning c.adopt_image.new.berth in
    let told_b : IsTrue b.tells = subst IsTrue (sym c.find.ensures.time.tells) told in
    let found = subst (λ (f : Found). Finds c.args.names.now a.held.region b.held.region (Ok f)) c.in-Ready.is (c.in_ok-find.ensures.told told) in
    image_moments a b d c.in-Ready.image (c.find.ensures.moments told) found.0 (c.adopt_image.ensures.moments a.held.region told_b found.0)

pub returns-in-NoImage-clause-told : goal.returns-in-NoImage-clause-told
returns-in-NoImage-clause-told g c =
    λ told.
    let a = g.B.Berth.meaning c.args.berth.now in
    let b = g.B.Berth.meaning c.find.new.berth in
    none_adopted c.args.names.now a.held.region b.held.region (subst (λ (f : Found). Finds c.args.names.now a.held.region b.held.region (Ok f)) c.in-NoImage.is (c.in_ok-find.ensures.told told))
