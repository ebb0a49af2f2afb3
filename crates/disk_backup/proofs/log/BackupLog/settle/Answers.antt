use Rattle.std.proofs.Common.{Ok, Err, refl}
use Rattle.std.specs.Prelude.{Result}
use Rattle.berth_face.specs.declared.stream.Failed.{Failed}
use Rattle.disk_backup.specs.declared.fault.DiskFault.{DiskFault}
use Rattle.disk_backup.proofs.Settled.{settled_ok_again, settled_err_again}
use Rattle.disk_backup.proofs.Kept.{keeps_log}
use Rattle.disk_backup.proofs.log.BackupLog.settle.Goals as goal

abbrev good : {E : Type 0} → Result (Unit {0}) E
good = Ok tt

abbrev bad : {E : Type 0} → E → Result (Unit {0}) E
bad e = Err e

pub returns-in_ok-bring_owed-clause-crash : goal.returns-in_ok-bring_owed-clause-crash
returns-in_ok-bring_owed-clause-crash g c =
    λ told.
    settled_ok_again c.args.self.now c.bring_owed.new.self (good {E = Failed}) (good {E = DiskFault}) (g.B.Berth.meaning c.args.berth.now) (g.B.Berth.meaning c.bring_owed.new.berth) refl refl (c.in_ok-bring_owed.ensures.crash told)

pub returns-in_ok-bring_owed-clause-log : goal.returns-in_ok-bring_owed-clause-log
returns-in_ok-bring_owed-clause-log g c =
    λ writes told have.
    keeps_log c.args.self.now writes (g.B.Berth.meaning c.args.berth.now) have c.bring_owed.new.self (good {E = DiskFault}) (g.B.Berth.meaning c.bring_owed.new.berth) (returns-in_ok-bring_owed-clause-crash g c told)

pub returns-in_err-bring_owed-clause-log : goal.returns-in_err-bring_owed-clause-log
returns-in_err-bring_owed-clause-log g c =
    λ writes told have.
    let old = g.B.Berth.meaning c.args.berth.now in
    let new = g.B.Berth.meaning c.bring_owed.new.berth in
    let settled = settled_err_again c.args.self.now c.bring_owed.new.self (bad {E = Failed} c.in_err-bring_owed.field-0.0) c.from_residual.result old new refl c.from_residual.ensures.0 (c.in_err-bring_owed.ensures.crash told) in
    keeps_log c.args.self.now writes old have c.bring_owed.new.self c.from_residual.result new settled
