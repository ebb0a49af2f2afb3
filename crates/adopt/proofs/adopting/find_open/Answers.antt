use Rattle.std.proofs.Common.{◌≡◌, IsTrue, sym, subst}
use Rattle.berth_face.specs.Berth.{IsClosed}
use Rattle.region_head.specs.Closing.{closed_flag}
use Rattle.adopt.proofs.Ending.{ended_on}
use Rattle.region_head.proofs.Closing.{flag_closed}
use Rattle.region_head.proofs.Moments.{adopts_closed}
use Rattle.adopt.proofs.adopting.find_open.Goals as goal

pub returns-clause-told : goal.returns-clause-told
returns-clause-told g c =
    λ told opened front.
    let a = g.B.Berth.meaning c.args.berth.now in
    let b = g.B.Berth.meaning c.close_flag.new.berth in
    let told_b : IsTrue b.tells = subst IsTrue (sym c.close_flag.ensures.time.tells) told in
    let closed : b.held.region ≡ closed_flag a.held.region = c.in_ok-close_flag.ensures.ok told in
    c.find_closed.ensures.told a.held.region told_b closed opened front

pub returns-clause-disks : goal.returns-clause-disks
returns-clause-disks g c =
    λ told.
    let a = g.B.Berth.meaning c.args.berth.now in
    let b = g.B.Berth.meaning c.close_flag.new.berth in
    let d = g.B.Berth.meaning c.find_closed.new.berth in
    let told_b : IsTrue b.tells = subst IsTrue (sym c.close_flag.ensures.time.tells) told in
    ended_on a b d (c.close_flag.ensures.disks told) (c.find_closed.ensures.disks told_b)

pub returns-clause-moments : goal.returns-clause-moments
returns-clause-moments g c =
    λ told open_flag.
    let a = g.B.Berth.meaning c.args.berth.now in
    let b = g.B.Berth.meaning c.close_flag.new.berth in
    let d = g.B.Berth.meaning c.find_closed.new.berth in
    let told_b : IsTrue b.tells = subst IsTrue (sym c.close_flag.ensures.time.tells) told in
    let closed : b.held.region ≡ closed_flag a.held.region = c.in_ok-close_flag.ensures.ok told in
    adopts_closed a b d open_flag (c.close_flag.ensures.moments told open_flag) (c.find_closed.ensures.moments told_b (subst IsClosed (sym closed) (flag_closed _)))
