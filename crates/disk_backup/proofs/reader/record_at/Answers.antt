use Rattle.std.proofs.Common.{◌≡◌, ◌+◌, ◌∙◌, ℕ, length, drop, take, sym, ap, subst, IsTrue, arith, option_map, Err, ◌≤◌}
use Rattle.std.proofs.lemmas.Result.{err_from_is_err_and}
use Rattle.disk_backup.specs.declared.fault.LogFault.{LogFault}
use Rattle.disk_backup.specs.declared.fault.LogFault.TheVariants as fault
use Rattle.berth_face.specs.Berth.{Pair}
use Rattle.row_records.specs.Records.{record_read}
use Rattle.disk_backup.specs.Scanning.{size_at}
use Rattle.disk_backup.proofs.Scanned.{writes_within, err_is, short_of, not_one, unread}
use Rattle.disk_backup.proofs.reader.record_at.Goals as goal

pub returns-in_err-size-clause-damaged : goal.returns-in_err-size-clause-damaged
returns-in_err-size-clause-damaged g c =
    λ told len e.
    let old = g.B.Berth.meaning c.args.berth.now in
    let p = err_from_is_err_and c.from_residual.result c.from_residual.ensures.1 in
    let known : c.in_err-size.field-0.0 ≡ fault.DiskDamaged = sym p.2 ∙ err_is p.0 fault.DiskDamaged (sym p.1 ∙ e) in
    short_of old.held.disk c.args.at c.args.len len (c.in_err-size.ensures.damaged told len (ap (λ (x : LogFault). Err x) known))

pub returns-in-None-clause-damaged : goal.returns-in-None-clause-damaged
returns-in-None-clause-damaged g c =
    λ told len e.
    let old = g.B.Berth.meaning c.args.berth.now in
    let mid = g.B.Berth.meaning c.record_size.new.berth in
    let at = c.args.at in
    let held = (c.record_size.ensures.stays told).held in
    let told_mid : IsTrue mid.tells = subst IsTrue (sym c.record_size.ensures.time.tells) told in
    let size = c.in_ok-size.ensures.told told len in
    let tail = drop at old.held.disk in
    let room = c.in_ok-size.ensures.room in
    let fits : at + c.in_ok-size.size ≤ length mid.held.disk = subst (λ (i : Pair). at + c.in_ok-size.size ≤ length i.disk) (sym held) (omega (arith, room, len)) in
    let bytes : c.deref.result.now ≡ take (size_at tail) tail = c.deref.ensures.value ∙ (c.in_ok-bytes.ensures.told told_mid fits).1 ∙ ap (λ (i : Pair). take c.in_ok-size.size (drop at i.disk)) held ∙ ap (λ (n : ℕ). take n tail) size in
    not_one tail (λ r is same. unread (option_map record_read c.in_ok-read_record.field-0) r (ap (λ o. option_map record_read o) c.in-None.is) (c.in_ok-read_record.ensures.only r is (bytes ∙ same)))

pub returns-clause-writes : goal.returns-clause-writes
returns-clause-writes g c =
    writes_within c.in_ok-read_record.field-0 c.in-Some.flush c.deref.result.now c.args.at c.in_ok-size.size c.in-Some.is c.in_ok-read_record.ensures.found (ap length c.deref.ensures.value ∙ c.in_ok-bytes.ensures.size)
