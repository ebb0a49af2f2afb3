use Rattle.std.proofs.Common.{◌≡◌, ◌+◌, ◌∙◌, ◌∷◌, length, drop, get_or, eqb, true, sym, ap, subst, IsTrue, refl, Err, ◌++◌, []}
use Rattle.std.proofs.lemmas.Result.{err_from_is_err_and}
use Rattle.disk_backup.specs.declared.fault.LogFault.{LogFault}
use Rattle.disk_backup.specs.declared.fault.LogFault.TheVariants as fault
use Rattle.disk_backup.specs.Scanning.{NoRecord, FoundRecord, Scanned, record_is}
use Rattle.berth_face.specs.Berth.{Pair}
use Rattle.disk_backup.proofs.Scanned.{err_is, opened_at, inside, further}
use Rattle.disk_backup.proofs.reader.step.Goals as goal

pub returns-in_err-flush-clause-damaged : goal.returns-in_err-flush-clause-damaged
returns-in_err-flush-clause-damaged g c =
    λ records told len scanned e.
    let old = g.B.Berth.meaning c.args.berth.now in
    let mid = g.B.Berth.meaning c.is_open.new.berth in
    let at = c.args.at in
    let lt = inside old.held.disk records at scanned in
    let held = (c.is_open.ensures.stays told).held in
    let told_mid : IsTrue mid.tells = subst IsTrue (sym c.is_open.ensures.time.tells) told in
    let is_one : eqb (get_or old.held.disk at 0) 1 ≡ true = sym (c.in_ok-is_open.ensures.told told lt).1 ∙ c.if-not-branch.false in
    let p = err_from_is_err_and c.from_residual-in_err-flush.result c.from_residual-in_err-flush.ensures.1 in
    let known : c.in_err-flush.field-0.0 ≡ fault.DiskDamaged = sym p.2 ∙ err_is p.0 fault.DiskDamaged (sym p.1 ∙ e) in
    let none = c.in_err-flush.ensures.damaged told_mid (len ∙ ap (λ (i : Pair). length i.disk) (sym held)) (ap (λ (x : LogFault). Err x) known) in
    record { rest = drop (at + 1) old.held.disk; opened = opened_at old.held.disk at lt is_one; none = subst (λ (i : Pair). NoRecord (drop (at + 1) i.disk)) held none }

pub returns-clause-step : goal.returns-clause-step
returns-clause-step g c =
    λ records told len scanned.
    let old = g.B.Berth.meaning c.args.berth.now in
    let mid = g.B.Berth.meaning c.is_open.new.berth in
    let at = c.args.at in
    let lt = inside old.held.disk records at scanned in
    let held = (c.is_open.ensures.stays told).held in
    let told_mid : IsTrue mid.tells = subst IsTrue (sym c.is_open.ensures.time.tells) told in
    let is_one : eqb (get_or old.held.disk at 0) 1 ≡ true = sym (c.in_ok-is_open.ensures.told told lt).1 ∙ c.if-not-branch.false in
    let flush = record_is c.in_ok-flush.flush in
    let found = c.in_ok-flush.ensures.told told_mid (len ∙ ap (λ (i : Pair). length i.disk) (sym held)) in
    let here = subst (λ (i : Pair). FoundRecord (drop (at + 1) i.disk) flush) held found.0 in
    let next = further old.held.disk records at flush (drop (at + 1) old.held.disk) scanned (opened_at old.held.disk at lt is_one) here.is here.front here.more in
    (subst (Scanned old.held.disk (records ++ flush ∷ [])) (sym found.1) next, refl)
