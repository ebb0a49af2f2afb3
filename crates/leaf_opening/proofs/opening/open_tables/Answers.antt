use Rattle.std.proofs.Common.{◌≡◌, ◌<◌, ◌^◌, ◌∙◌, length, IsTrue, Err, inl, sym, ap, subst}
use Rattle.std.proofs.lemmas.Result.{err_from_is_err_and}
use Rattle.table_state.specs.Tables.{HeldTables}
use Rattle.adopt.specs.Adopting.{IsLeftBehind}
use Rattle.adopt.specs.Starting.{HasTables, IsAdoption}
use Rattle.berth_face.specs.Berth.{IsClosed}
use Rattle.disk_backup.specs.State.{LogState}
use Rattle.disk_backup.specs.Logs.{IsSound}
use Rattle.disk_backup.specs.Scanning.{scanned_disk}
use Rattle.log_recovery.specs.declared.fault.RecoveryFault.{RecoveryFault}
use Rattle.leaf_opening.specs.Faults.{told_of_adopt, told_of_recovery}
use Rattle.leaf_opening.specs.Starts.{IsWayOf}
use Rattle.leaf_opening.proofs.Places.{AreSettled, are_fresh, have_room}
use Rattle.leaf_opening.proofs.Origins.{started_by_memory, started_by_disk, recovered_as, not_by_memory}
use Rattle.leaf_opening.proofs.Exact.{exact_adopt, exact_err, exact_log, exact_ok, recovered_exact, why_alone}
use Rattle.leaf_opening.proofs.Regions.{left_closed}
use Rattle.leaf_opening.proofs.Starting.{opens_adopting, opens_reading, held_on, never_told, never_adopting, never_damaged, kept_as, kept_adopting, kept_reading}
use Rattle.leaf_opening.proofs.opening.open_tables.Goals as goal

pub returns-in_err-found-clause-sound : goal.returns-in_err-found-clause-sound
returns-in_err-found-clause-sound g c =
    λ told sound.
    let fault = c.in_err-found.field-0.0 in
    let p = err_from_is_err_and c.from_residual.result c.from_residual.ensures.1 in
    never_told c.from_residual.result p.0 (told_of_adopt fault) p.1 p.2 (never_adopting fault)

pub returns-in_err-found-clause-moments : goal.returns-in_err-found-clause-moments
returns-in_err-found-clause-moments g c =
    λ told. opens_adopting (g.B.Berth.meaning c.args.berth.now) (g.B.Berth.meaning c.adopt.new.berth) (c.adopt.ensures.moments told)

pub returns-in_err-found-clause-disks : goal.returns-in_err-found-clause-disks
returns-in_err-found-clause-disks g c =
    λ told.
    let old = g.B.Berth.meaning c.args.berth.now in
    let new = g.B.Berth.meaning c.adopt.new.berth in
    let fault = c.in_err-found.field-0.0 in
    let p = err_from_is_err_and c.from_residual.result c.from_residual.ensures.1 in
    kept_as c.from_residual.result p.0 (told_of_adopt fault) p.1 p.2 old new (kept_adopting old new fault (c.adopt.ensures.disks told))

pub returns-in_err-found-clause-held : goal.returns-in_err-found-clause-held
returns-in_err-found-clause-held g c = λ told. inl (c.adopt.ensures.disk told)

pub returns-in_err-recovered-in-NoTables-clause-sound :
    goal.returns-in_err-recovered-in-NoTables-clause-sound
returns-in_err-recovered-in-NoTables-clause-sound g c =
    λ told sound.
    let mid = g.B.Berth.meaning c.adopt.new.berth in
    let told_mid : IsTrue mid.tells = subst IsTrue (sym c.adopt.ensures.time.tells) told in
    let sound_mid : IsSound mid.held.disk = subst IsSound (sym (c.adopt.ensures.disk told)) sound in
    let fault = c.in_err-recovered-in-NoTables.field-0.0 in
    let result = c.from_residual-in_err-recovered-in-NoTables.result in
    let p = err_from_is_err_and result c.from_residual-in_err-recovered-in-NoTables.ensures.1 in
    never_told result p.0 (told_of_recovery fault) p.1 p.2
    (never_damaged fault (λ e. c.in_err-recovered-in-NoTables.ensures.sound told_mid sound_mid (ap (λ (f : RecoveryFault). Err f) e)))

pub returns-in_err-recovered-in-NoTables-clause-moments :
    goal.returns-in_err-recovered-in-NoTables-clause-moments
returns-in_err-recovered-in-NoTables-clause-moments g c =
    λ told.
    let old = g.B.Berth.meaning c.args.berth.now in
    let mid = g.B.Berth.meaning c.adopt.new.berth in
    let law = (g.met.B.Berth g.world.𝓛 g.world.𝓜 g.world.𝓡 ((λ s x. x), (λ x. x), (λ x. x), λ x. x)) in
    let told_mid : IsTrue mid.tells = subst IsTrue (sym c.adopt.ensures.time.tells) told in
    let shut : IsClosed mid.held.region = left_closed old.held.region mid.held.region (c.in_ok-found.ensures.told told).1 in
    opens_reading old mid (c.adopt.ensures.moments told) (c.adopt.ensures.disk told) shut (λ p left. law.keeps_region c.adopt.new.berth p told_mid left) (g.B.Berth.meaning c.recover.new.berth) (c.recover.ensures.moments told_mid)

pub returns-in_err-recovered-in-NoTables-clause-disks :
    goal.returns-in_err-recovered-in-NoTables-clause-disks
returns-in_err-recovered-in-NoTables-clause-disks g c =
    λ told.
    let old = g.B.Berth.meaning c.args.berth.now in
    let new = g.B.Berth.meaning c.recover.new.berth in
    let fault = c.in_err-recovered-in-NoTables.field-0.0 in
    let result = c.from_residual-in_err-recovered-in-NoTables.result in
    let p = err_from_is_err_and result c.from_residual-in_err-recovered-in-NoTables.ensures.1 in
    kept_as result p.0 (told_of_recovery fault) p.1 p.2 old new (kept_reading old new fault)

pub returns-in_err-recovered-in-NoTables-clause-held :
    goal.returns-in_err-recovered-in-NoTables-clause-held
returns-in_err-recovered-in-NoTables-clause-held g c =
    λ told.
    let old = g.B.Berth.meaning c.args.berth.now in
    let mid = g.B.Berth.meaning c.adopt.new.berth in
    let new = g.B.Berth.meaning c.recover.new.berth in
    let told_mid : IsTrue mid.tells = subst IsTrue (sym c.adopt.ensures.time.tells) told in
    held_on old.held.disk mid.held.disk new.held.disk (c.adopt.ensures.disk told) (c.recover.ensures.held told_mid)

-- ---- out of the region

pub returns-in-Tables-clause-one : goal.returns-in-Tables-clause-one
returns-in-Tables-clause-one g c =
    let adopted = subst (HasTables (length c.args.names.now)) c.in-Tables.is c.in_ok-found.ensures.adopted in
    ap (λ (ts : HeldTables). length ts.each) c.from_image.ensures.tables ∙ adopted.0

pub returns-in-Tables-clause-fresh : goal.returns-in-Tables-clause-fresh
returns-in-Tables-clause-fresh g c =
    let adopted = subst (HasTables (length c.args.names.now)) c.in-Tables.is c.in_ok-found.ensures.adopted in
    (are_fresh c.from_image.result.tables.each (subst (λ (ts : HeldTables). AreSettled ts.each) (sym c.from_image.ensures.tables) adopted.1), ap (λ (l : LogState). l.owed) c.from_image.ensures.log)

pub returns-in-Tables-clause-room : goal.returns-in-Tables-clause-room
returns-in-Tables-clause-room g c =
    let adopted = subst (HasTables (length c.args.names.now)) c.in-Tables.is c.in_ok-found.ensures.adopted in
    have_room c.from_image.result.tables.each (subst (λ (ts : HeldTables). AreSettled ts.each) (sym c.from_image.ensures.tables) adopted.1)

pub returns-in-Tables-clause-told : goal.returns-in-Tables-clause-told
returns-in-Tables-clause-told g c =
    λ told.
    let names = c.args.names.now in
    let old = g.B.Berth.meaning c.args.berth.now in
    let new = g.B.Berth.meaning c.adopt.new.berth in
    let opened = c.from_image.result in
    let answer = c.in_ok-found.ensures.told told in
    let found = subst (IsAdoption names old.held.region) c.in-Tables.is answer.0 in
    started_by_memory names opened.tables opened.log opened.way old new answer.1 c.in-Tables.adopted found c.from_image.ensures.tables c.from_image.ensures.log c.from_image.ensures.way (c.adopt.ensures.disk told)

pub returns-in-Tables-clause-way : goal.returns-in-Tables-clause-way
returns-in-Tables-clause-way g c =
    λ told.
    let region = (g.B.Berth.meaning c.args.berth.now).held.region in
    let found = subst (IsAdoption c.args.names.now region) c.in-Tables.is (c.in_ok-found.ensures.told told).0 in
    subst (IsWayOf region) (sym c.from_image.ensures.way) (found.0, c.in-Tables.adopted.log_end, found.1)

pub returns-in-Tables-clause-moments : goal.returns-in-Tables-clause-moments
returns-in-Tables-clause-moments g c =
    λ told. opens_adopting (g.B.Berth.meaning c.args.berth.now) (g.B.Berth.meaning c.adopt.new.berth) (c.adopt.ensures.moments told)

pub returns-in-Tables-clause-disks : goal.returns-in-Tables-clause-disks
returns-in-Tables-clause-disks g c = λ told memory. c.adopt.ensures.disks told

pub returns-in-Tables-clause-durable : goal.returns-in-Tables-clause-durable
returns-in-Tables-clause-durable g c = λ told w disk. absurd (not_by_memory c.from_image.result.way w disk c.from_image.ensures.way)

pub returns-in-Tables-clause-held : goal.returns-in-Tables-clause-held
returns-in-Tables-clause-held g c = λ told. inl (c.adopt.ensures.disk told)

pub returns-in-Tables-clause-log_room : goal.returns-in-Tables-clause-log_room
returns-in-Tables-clause-log_room g c =
    let adopted = subst (HasTables (length c.args.names.now)) c.in-Tables.is c.in_ok-found.ensures.adopted in
    subst (λ (l : LogState). l.end < 2 ^ 63) (sym c.from_image.ensures.log) adopted.2

-- ---- out of the log

pub returns-in_ok-recovered-in-NoTables-clause-one :
    goal.returns-in_ok-recovered-in-NoTables-clause-one
returns-in_ok-recovered-in-NoTables-clause-one g c =
    ap (λ (ts : HeldTables). length ts.each) c.from_log.ensures.tables ∙ c.in_ok-recovered-in-NoTables.ensures.one

pub returns-in_ok-recovered-in-NoTables-clause-fresh :
    goal.returns-in_ok-recovered-in-NoTables-clause-fresh
returns-in_ok-recovered-in-NoTables-clause-fresh g c = (
  are_fresh c.from_log.result.tables.each (subst (λ (ts : HeldTables). AreSettled ts.each) (sym c.from_log.ensures.tables) c.in_ok-recovered-in-NoTables.ensures.settled),
  ap (λ (l : LogState). l.owed) c.from_log.ensures.log ∙ c.in_ok-recovered-in-NoTables.ensures.none_owed.0,
)

pub returns-in_ok-recovered-in-NoTables-clause-room :
    goal.returns-in_ok-recovered-in-NoTables-clause-room
returns-in_ok-recovered-in-NoTables-clause-room g c =
    have_room c.from_log.result.tables.each (subst (λ (ts : HeldTables). AreSettled ts.each) (sym c.from_log.ensures.tables) c.in_ok-recovered-in-NoTables.ensures.settled)

pub returns-in_ok-recovered-in-NoTables-clause-told :
    goal.returns-in_ok-recovered-in-NoTables-clause-told
returns-in_ok-recovered-in-NoTables-clause-told g c =
    λ told.
    let names = c.args.names.now in
    let old = g.B.Berth.meaning c.args.berth.now in
    let mid = g.B.Berth.meaning c.adopt.new.berth in
    let new = g.B.Berth.meaning c.recover.new.berth in
    let told_mid : IsTrue mid.tells = subst IsTrue (sym c.adopt.ensures.time.tells) told in
    let opened = c.from_log.result in
    let said = c.in_ok-recovered-in-NoTables.ensures in
    let answer = c.in_ok-found.ensures.told told in
    let why = subst (IsAdoption names old.held.region) c.in-NoTables.is answer.0 in
    let read = recovered_as names new.held.disk (sym c.from_log.ensures.tables) (sym c.from_log.ensures.log) (said.told told_mid) in
    let disk : new.held.disk ≡ scanned_disk old.held.disk = said.disk told_mid ∙ ap scanned_disk (c.adopt.ensures.disk told) in
    let region = subst (IsLeftBehind old.held.region) (sym (c.recover.ensures.region told_mid)) answer.1 in
    started_by_disk names opened.tables opened.log opened.way old new region c.in-NoTables.why (why_alone names old.held.region c.in-NoTables.why why) read c.from_log.ensures.way disk

pub returns-in_ok-recovered-in-NoTables-clause-way :
    goal.returns-in_ok-recovered-in-NoTables-clause-way
returns-in_ok-recovered-in-NoTables-clause-way g c =
    λ told.
    let region = (g.B.Berth.meaning c.args.berth.now).held.region in
    subst (IsWayOf region) (sym c.from_log.ensures.way) (why_alone c.args.names.now region c.in-NoTables.why (subst (IsAdoption c.args.names.now region) c.in-NoTables.is (c.in_ok-found.ensures.told told).0))

pub returns-in_ok-recovered-in-NoTables-clause-reads :
    goal.returns-in_ok-recovered-in-NoTables-clause-reads
returns-in_ok-recovered-in-NoTables-clause-reads g c = λ memory. absurd (not_by_memory c.from_log.result.way c.in-NoTables.why c.from_log.ensures.way memory)

pub returns-in_ok-recovered-in-NoTables-clause-moments :
    goal.returns-in_ok-recovered-in-NoTables-clause-moments
returns-in_ok-recovered-in-NoTables-clause-moments g c =
    λ told.
    let old = g.B.Berth.meaning c.args.berth.now in
    let mid = g.B.Berth.meaning c.adopt.new.berth in
    let law = (g.met.B.Berth g.world.𝓛 g.world.𝓜 g.world.𝓡 ((λ s x. x), (λ x. x), (λ x. x), λ x. x)) in
    let told_mid : IsTrue mid.tells = subst IsTrue (sym c.adopt.ensures.time.tells) told in
    let shut : IsClosed mid.held.region = left_closed old.held.region mid.held.region (c.in_ok-found.ensures.told told).1 in
    opens_reading old mid (c.adopt.ensures.moments told) (c.adopt.ensures.disk told) shut (λ p left. law.keeps_region c.adopt.new.berth p told_mid left) (g.B.Berth.meaning c.recover.new.berth) (c.recover.ensures.moments told_mid)

pub returns-in_ok-recovered-in-NoTables-clause-disks :
    goal.returns-in_ok-recovered-in-NoTables-clause-disks
returns-in_ok-recovered-in-NoTables-clause-disks g c =
    λ told memory. absurd (not_by_memory c.from_log.result.way c.in-NoTables.why c.from_log.ensures.way memory)

pub returns-in_ok-recovered-in-NoTables-clause-durable :
    goal.returns-in_ok-recovered-in-NoTables-clause-durable
returns-in_ok-recovered-in-NoTables-clause-durable g c =
    λ told w disk.
    let told_mid = subst IsTrue (sym c.adopt.ensures.time.tells) told in
    c.in_ok-recovered-in-NoTables.ensures.durable told_mid

pub returns-in_ok-recovered-in-NoTables-clause-held :
    goal.returns-in_ok-recovered-in-NoTables-clause-held
returns-in_ok-recovered-in-NoTables-clause-held g c =
    λ told.
    let old = g.B.Berth.meaning c.args.berth.now in
    let mid = g.B.Berth.meaning c.adopt.new.berth in
    let new = g.B.Berth.meaning c.recover.new.berth in
    let told_mid : IsTrue mid.tells = subst IsTrue (sym c.adopt.ensures.time.tells) told in
    held_on old.held.disk mid.held.disk new.held.disk (c.adopt.ensures.disk told) (c.recover.ensures.held told_mid)

pub returns-in_ok-recovered-in-NoTables-clause-log_room :
    goal.returns-in_ok-recovered-in-NoTables-clause-log_room
returns-in_ok-recovered-in-NoTables-clause-log_room g c =
    subst (λ (l : LogState). l.end < 2 ^ 63) (sym c.from_log.ensures.log) c.in_ok-recovered-in-NoTables.ensures.none_owed.1

-- ---- what the bytes decide

pub returns-in_err-found-clause-exact : goal.returns-in_err-found-clause-exact
returns-in_err-found-clause-exact g c =
    λ told.
    let old = (g.B.Berth.meaning c.args.berth.now).held in
    let p = err_from_is_err_and c.from_residual.result c.from_residual.ensures.1 in
    exact_err c.args.names.now old.region old.disk c.from_residual.result p.0 (told_of_adopt c.in_err-found.field-0.0) p.1 p.2 (exact_adopt c.args.names.now old.region old.disk c.in_err-found.field-0.0)

pub returns-in_err-recovered-in-NoTables-clause-exact : goal.returns-in_err-recovered-in-NoTables-clause-exact
returns-in_err-recovered-in-NoTables-clause-exact g c =
    λ told.
    let names = c.args.names.now in
    let old = (g.B.Berth.meaning c.args.berth.now).held in
    let mid = g.B.Berth.meaning c.adopt.new.berth in
    let new = g.B.Berth.meaning c.recover.new.berth in
    let told_mid : IsTrue mid.tells = subst IsTrue (sym c.adopt.ensures.time.tells) told in
    let fault = c.in_err-recovered-in-NoTables.field-0.0 in
    let result = c.from_residual-in_err-recovered-in-NoTables.result in
    let p = err_from_is_err_and result c.from_residual-in_err-recovered-in-NoTables.ensures.1 in
    let why = subst (IsAdoption names old.region) c.in-NoTables.is (c.in_ok-found.ensures.told told).0 in
    exact_err names old.region old.disk result p.0 (told_of_recovery fault) p.1 p.2
    (exact_log names old.region old.disk c.in-NoTables.why new.held.disk mid.held.disk fault why (c.in_err-recovered-in-NoTables.ensures.refused told_mid) (c.in_err-recovered-in-NoTables.ensures.begun told_mid) (c.adopt.ensures.disk told))

pub returns-in-Tables-clause-exact : goal.returns-in-Tables-clause-exact
returns-in-Tables-clause-exact g c =
    λ told.
    let names = c.args.names.now in
    let old = (g.B.Berth.meaning c.args.berth.now).held in
    let found = subst (IsAdoption names old.region) c.in-Tables.is (c.in_ok-found.ensures.told told).0 in
    exact_ok names old.region old.disk c.from_image.result.way _ c.from_image.ensures.way (found.0, c.in-Tables.adopted.log_end, found.1, found.2)

pub returns-in-Stranger-clause-exact : goal.returns-in-Stranger-clause-exact
returns-in-Stranger-clause-exact g c =
    λ told. inl (subst (IsAdoption c.args.names.now (g.B.Berth.meaning c.args.berth.now).held.region) c.in-Stranger.is (c.in_ok-found.ensures.told told).0)

pub returns-in_ok-recovered-in-NoTables-clause-exact : goal.returns-in_ok-recovered-in-NoTables-clause-exact
returns-in_ok-recovered-in-NoTables-clause-exact g c =
    λ told.
    let names = c.args.names.now in
    let old = (g.B.Berth.meaning c.args.berth.now).held in
    let mid = g.B.Berth.meaning c.adopt.new.berth in
    let new = g.B.Berth.meaning c.recover.new.berth in
    let told_mid : IsTrue mid.tells = subst IsTrue (sym c.adopt.ensures.time.tells) told in
    let said = c.in_ok-recovered-in-NoTables.ensures in
    let why = subst (IsAdoption names old.region) c.in-NoTables.is (c.in_ok-found.ensures.told told).0 in
    exact_ok names old.region old.disk c.from_log.result.way _ c.from_log.ensures.way
    (recovered_exact names old.region old.disk c.in-NoTables.why new.held.disk _ _ why (said.told told_mid).0 (said.disk told_mid ∙ ap scanned_disk (c.adopt.ensures.disk told)))
