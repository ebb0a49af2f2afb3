use Rattle.std.proofs.Common.{Bool, inr, sym, subst, IsTrue}
use Rattle.berth_face.specs.Moments.{EachNow}
use Rattle.disk_backup.specs.Gates.{OwingAfter, LaidAfter, OpenAfter, EitherWay}
use Rattle.berth_face.proofs.Moments.{now_of, throughout_map}
use Rattle.disk_backup.proofs.Results.{on_ok_err, on_ok_map, on_err}
use Rattle.disk_backup.specs.Came.{Came}
use Rattle.disk_backup.proofs.Came.{came_map, came_on, came_join, owing_either}
use Rattle.disk_backup.proofs.halves.bring.Goals as goal

pub returns-in_err-lay_once-clause-crash : goal.returns-in_err-lay_once-clause-crash
returns-in_err-lay_once-clause-crash g c =
    λ told.
    let old = g.B.Berth.meaning c.args.berth.now in
    let new = g.B.Berth.meaning c.lay_once.new.berth in
    let end = c.args.end in
    let owed = c.args.owed.now in
    let l = c.args.laid.now in
    let all = (c.lay_once.ensures.crash told).0 in
    let still : EachNow (Came end (OwingAfter l owed) (OwingAfter l owed) old) new = now_of old new (Came end (OwingAfter l owed) (OwingAfter l owed) old) all in (
      throughout_map old new (Came end (OwingAfter l owed) (OwingAfter l owed) old) (Came end (OwingAfter l owed) (EitherWay owed) old)
          (came_map end (OwingAfter l owed) (OwingAfter l owed) (EitherWay owed) old (λ front disk had. owing_either l owed front disk had)) all,
      on_ok_err _ c.from_residual.result c.from_residual.ensures.0,
      on_err c.from_residual.result (subst (λ (k : Bool). EachNow (Came end (OwingAfter l owed) (OwingAfter k owed) old) new) (sym c.in_err-lay_once.ensures.failed) still),
    )

pub returns-clause-crash : goal.returns-clause-crash
returns-clause-crash g c =
    λ told.
    let old = g.B.Berth.meaning c.args.berth.now in
    let mid = g.B.Berth.meaning c.lay_once.new.berth in
    let new = g.B.Berth.meaning c.open_gate.new.berth in
    let end = c.args.end in
    let owed = c.args.owed.now in
    let l = c.args.laid.now in
    let laid = c.in_ok-lay_once.ensures.crash told in
    let told_mid : IsTrue mid.tells = subst IsTrue (sym c.lay_once.ensures.time.tells) told in
    let opened = c.open_gate.ensures.crash owed told_mid in
    let first = throughout_map old mid (Came end (OwingAfter l owed) (OwingAfter l owed) old) (Came end (OwingAfter l owed) (EitherWay owed) old)
    (came_map end (OwingAfter l owed) (OwingAfter l owed) (EitherWay owed) old (λ front disk had. owing_either l owed front disk had)) laid.0 in
    let second = throughout_map mid new (Came end (λ front. LaidAfter front owed) (λ front. LaidAfter front owed) mid) (Came end (λ front. LaidAfter front owed) (EitherWay owed) mid)
    (came_map end (λ front. LaidAfter front owed) (λ front. LaidAfter front owed) (EitherWay owed) mid (λ front disk had. inr had)) opened.0 in
    let still : EachNow (Came end (OwingAfter l owed) (λ front. LaidAfter front owed) old) new = λ p left.
    came_on end (OwingAfter l owed) (λ front. LaidAfter front owed) (λ front. LaidAfter front owed) old mid p laid.1 (now_of mid new (Came end (λ front. LaidAfter front owed) (λ front. LaidAfter front owed) mid) opened.0 p left) in (
      came_join end (OwingAfter l owed) (λ front. LaidAfter front owed) (EitherWay owed) old mid new first laid.1 second,
      on_ok_map c.open_gate.result (λ now p left. came_on end (OwingAfter l owed) (λ front. LaidAfter front owed) (λ front. OpenAfter front owed) old mid p laid.1 (now p left)) opened.1,
      on_err c.open_gate.result (subst (λ (k : Bool). EachNow (Came end (OwingAfter l owed) (OwingAfter k owed) old) new) (sym c.in_ok-lay_once.ensures.laid) still),
    )
