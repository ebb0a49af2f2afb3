use Rattle.std.proofs.Common.{Ok, ◌+◌, length, false, refl, sym, subst}
use Rattle.std.specs.Prelude.{IsSome}
use Rattle.berth_face.specs.declared.stream.Failed.{Failed}
use Rattle.disk_backup.specs.State.{LogState}
use Rattle.disk_backup.specs.Settling.{Settled}
use Rattle.disk_backup.proofs.Settled.{settled_done, settled_failed}
use Rattle.disk_backup.proofs.log.BackupLog.bring_owed.Goals as goal

pub returns-in_err-bring-clause-crash : goal.returns-in_err-bring-clause-crash
returns-in_err-bring-clause-crash g c =
    λ told.
    let old = g.B.Berth.meaning c.args.berth.now in
    let new = g.B.Berth.meaning c.bring.new.berth in
    let inside = c.self.inside in
    let log : LogState = record { end = inside.end; owed = inside.owed; laid = inside.laid } in
    let later : LogState = record { end = inside.end; owed = inside.owed; laid = c.bring.new.laid } in
    let some : IsSome inside.owed = subst (λ (s : LogState). IsSome s.owed) (sym c.self.view_is) c.requires in
    let came = c.in_err-bring.ensures.crash told in
    subst (λ (s : LogState). Settled s later c.from_residual.result old new) c.self.view_is
    (settled_failed log c.bytes.result.now old new c.from_residual.result later some c.bytes.ensures.record c.bytes.ensures.bytes c.from_residual.ensures.0 refl refl came.0 came.2)

pub returns-clause-crash : goal.returns-clause-crash
returns-clause-crash g c =
    λ told.
    let old = g.B.Berth.meaning c.args.berth.now in
    let new = g.B.Berth.meaning c.bring.new.berth in
    let inside = c.self.inside in
    let log : LogState = record { end = inside.end; owed = inside.owed; laid = inside.laid } in
    let some : IsSome inside.owed = subst (λ (s : LogState). IsSome s.owed) (sym c.self.view_is) c.requires in
    let came = c.in_ok-bring.ensures.crash told in
    let later : LogState = record { end = inside.end + length c.bytes-2.result.now; owed = c.clear.new.self; laid = false } in
    subst (λ (s : LogState). Settled {T = Unit {0}} {E = Failed} s later (Ok tt) old new) c.self.view_is
    (settled_done log c.bytes.result.now old new (Ok tt) later some c.bytes.ensures.record c.bytes.ensures.bytes refl came.0 came.1)
