use Rattle.std.proofs.Common.{◌≡◌, ◌∙◌, List, ℕ, [], length, map, IsTrue, sym, ap, subst}
use Rattle.std.proofs.lemmas.Result.{err_from_is_err_and}
use Rattle.berth_face.specs.Berth.{Pair}
use Rattle.berth_face.proofs.Moments.{through_stay}
use Rattle.disk_backup.specs.Scanning.{StepsFrom, BeginsScan, scanned_disk}
use Rattle.log_recovery.specs.declared.fault.RecoveryFault.TheVariants as fault
use Rattle.log_recovery.specs.Recovery.{IsRecoveryRefusal}
use Rattle.table_state.specs.Tables.{bare}
use Rattle.log_recovery.proofs.Applying.{bare_tables}
use Rattle.log_recovery.proofs.Counting.{told_as}
use Rattle.log_recovery.proofs.Reading.{err_is, err_read, never_refused}
use Rattle.log_recovery.proofs.recovery.recover.Goals as goal

pub read_on-requires-clause-empty : goal.read_on-requires-clause-empty
read_on-requires-clause-empty g c κs within = ap (map bare) c.in_ok-tables.ensures.empty ∙ bare_tables c.args.names.now []

pub returns-clause-told : goal.returns-clause-told
returns-clause-told g c =
    λ told.
    let mid = g.B.Berth.meaning c.begin.new.berth in
    let told_mid : IsTrue mid.tells = subst IsTrue (sym c.begin.ensures.time.tells) told in
    let same = ap (λ (p : Pair). p.disk) (sym (c.read_on.ensures.stays told_mid).held) in
    told_as c.args.names.now c.in_ok-log.log same (sym c.of.ensures.each) (sym c.of.ensures.columns) (c.in_ok-log.ensures.told told_mid)

pub returns-in_err-log-clause-sound : goal.returns-in_err-log-clause-sound
returns-in_err-log-clause-sound g c =
    λ told sound e.
    let names = c.args.names.now in
    let old = g.B.Berth.meaning c.args.berth.now in
    let mid = g.B.Berth.meaning c.begin.new.berth in
    let told_mid : IsTrue mid.tells = subst IsTrue (sym c.begin.ensures.time.tells) told in
    let p = err_from_is_err_and c.from_residual-in_err-log.result c.from_residual-in_err-log.ensures.1 in
    let damaged : c.in_err-log.field-0.0 ≡ fault.DiskDamaged = sym p.2 ∙ err_is p.0 fault.DiskDamaged (sym p.1 ∙ e) in
    let refused = subst (IsRecoveryRefusal names mid.held.disk) damaged (c.in_err-log.ensures.refused told_mid) in
    never_refused names old.held.disk sound (subst (λ (d : List ℕ). IsRecoveryRefusal names d fault.DiskDamaged) (c.in_ok-scan.ensures.disk told) refused)

pub returns-in_err-log-clause-moments : goal.returns-in_err-log-clause-moments
returns-in_err-log-clause-moments g c =
    λ told.
    let old = g.B.Berth.meaning c.args.berth.now in
    let mid = g.B.Berth.meaning c.begin.new.berth in
    let told_mid : IsTrue mid.tells = subst IsTrue (sym c.begin.ensures.time.tells) told in
    through_stay old mid (g.B.Berth.meaning c.read_on.new.berth) (StepsFrom (BeginsScan (length old.held.disk)) old) (c.begin.ensures.moments told) c.read_on.ensures.time (c.read_on.ensures.stays told_mid)

pub returns-clause-moments : goal.returns-clause-moments
returns-clause-moments g c =
    λ told.
    let old = g.B.Berth.meaning c.args.berth.now in
    let mid = g.B.Berth.meaning c.begin.new.berth in
    let told_mid : IsTrue mid.tells = subst IsTrue (sym c.begin.ensures.time.tells) told in
    through_stay old mid (g.B.Berth.meaning c.read_on.new.berth) (StepsFrom (BeginsScan (length old.held.disk)) old) (c.begin.ensures.moments told) c.read_on.ensures.time (c.read_on.ensures.stays told_mid)

pub returns-in_err-log-clause-held : goal.returns-in_err-log-clause-held
returns-in_err-log-clause-held g c =
    λ told.
    let old = g.B.Berth.meaning c.args.berth.now in
    let mid = g.B.Berth.meaning c.begin.new.berth in
    let told_mid : IsTrue mid.tells = subst IsTrue (sym c.begin.ensures.time.tells) told in
    subst (λ (p : Pair). BeginsScan (length old.held.disk) old.held.disk p.disk) (sym (c.read_on.ensures.stays told_mid).held) (c.begin.ensures.held told)

pub returns-clause-held : goal.returns-clause-held
returns-clause-held g c =
    λ told.
    let old = g.B.Berth.meaning c.args.berth.now in
    let mid = g.B.Berth.meaning c.begin.new.berth in
    let told_mid : IsTrue mid.tells = subst IsTrue (sym c.begin.ensures.time.tells) told in
    subst (λ (p : Pair). BeginsScan (length old.held.disk) old.held.disk p.disk) (sym (c.read_on.ensures.stays told_mid).held) (c.begin.ensures.held told)

pub returns-in_err-log-clause-begun : goal.returns-in_err-log-clause-begun
returns-in_err-log-clause-begun g c =
    λ told.
    let old = g.B.Berth.meaning c.args.berth.now in
    let mid = g.B.Berth.meaning c.begin.new.berth in
    let new = g.B.Berth.meaning c.read_on.new.berth in
    let told_mid : IsTrue mid.tells = subst IsTrue (sym c.begin.ensures.time.tells) told in
    err_read c.from_residual-in_err-log.result (new.held.disk ≡ scanned_disk old.held.disk) (ap (λ (p : Pair). p.disk) (c.read_on.ensures.stays told_mid).held ∙ c.in_ok-scan.ensures.disk told)
