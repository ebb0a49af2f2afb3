use Rattle.std.proofs.Common.{Bool, sym, subst}
use Rattle.berth_face.specs.Moments.{EachNow, Throughout}
use Rattle.disk_backup.specs.Gates.{OwingAfter, LaidAfter}
use Rattle.disk_backup.proofs.Results.{on_ok_err}
use Rattle.disk_backup.specs.Came.{Came}
use Rattle.disk_backup.proofs.halves.lay_once.Goals as goal

pub returns-in_err-lay-clause-crash : goal.returns-in_err-lay-clause-crash
returns-in_err-lay-clause-crash g c =
    λ told.
    let old = g.B.Berth.meaning c.args.berth.now in
    let new = g.B.Berth.meaning c.lay.new.berth in
    let owed = c.args.owed.now in (
      subst (λ (l : Bool). Throughout (Came c.args.end (OwingAfter l owed) (OwingAfter l owed) old) old new) (sym c.if-laid.false) (c.lay.ensures.crash told).0,
      on_ok_err _ c.from_residual.result c.from_residual.ensures.0,
    )

pub returns-clause-crash : goal.returns-clause-crash
returns-clause-crash g c =
    λ told.
    let old = g.B.Berth.meaning c.args.berth.now in
    let new = g.B.Berth.meaning c.lay.new.berth in
    let owed = c.args.owed.now in
    let laid = c.in_ok-lay.ensures.crash told in (
      subst (λ (l : Bool). Throughout (Came c.args.end (OwingAfter l owed) (OwingAfter l owed) old) old new) (sym c.if-laid.false) laid.0,
      subst (λ (l : Bool). EachNow (Came c.args.end (OwingAfter l owed) (λ front. LaidAfter front owed) old) new) (sym c.if-laid.false) laid.1,
    )
