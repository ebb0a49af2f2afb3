use Rattle.std.proofs.Common.{rules, ◌≡◌, ℕ, IsTrue, length, map, sym, subst}
use Rattle.berth_face.specs.Berth.{Pair}
use Rattle.berth_face.proofs.Moments.{passes_on, stays_on}
use Rattle.disk_backup.specs.Scanning.{Scanned, StepIs, ScansOn}
use Rattle.table_state.specs.Tables.{Table, bare, columns_most}
use Rattle.log_recovery.proofs.Reading.{settled, reached_end, reached_more}
use Rattle.log_recovery.proofs.recovery.read_on.Goals as goal

abbrev columns_of : Table → ℕ
columns_of t = columns_most t.store

pub returns-in-Ended-clause-settled : goal.returns-in-Ended-clause-settled
returns-in-Ended-clause-settled g c =
    let old = g.B.Berth.meaning c.args.berth.now in
    settled c.args.names.now old.tells old.held.disk c.loop-log.scan (map bare c.loop-log.tables.items) (map columns_of c.loop-log.tables.items) c.loop-log.invariant.reached (subst (ScansOn c.loop-log.scan) c.in-Ended.is c.in_ok-log.ensures.goes_on).1

pub returns-in-Ended-clause-told : goal.returns-in-Ended-clause-told
returns-in-Ended-clause-told g c =
    λ told.
    let old = g.B.Berth.meaning c.args.berth.now in
    let scan = c.loop-log.scan in
    let so_far = c.loop-log.invariant.reached in
    let told_mid : IsTrue (g.B.Berth.meaning c.loop-log.berth).tells = subst IsTrue (sym c.loop-log.invariant.passes.tells) told in
    let step = subst (λ (p : Pair). scan.len ≡ length p.disk → Scanned p.disk so_far.records scan.at → StepIs p.disk so_far.records scan.len c.in_ok-log.field-0) (c.loop-log.invariant.stays told).held
    (c.in_ok-log.ensures.step so_far.records told_mid) (so_far.len told) (so_far.scanned told) in
    let closed = subst (StepIs old.held.disk so_far.records scan.len) c.in-Ended.is step in
    let goes = subst (ScansOn scan) c.in-Ended.is c.in_ok-log.ensures.goes_on in
    reached_end c.args.names.now old.tells old.held.disk scan (map bare c.loop-log.tables.items) (map columns_of c.loop-log.tables.items) so_far told c.in-Ended.log closed goes.0

pub loop-log-preserved : goal.loop-log-preserved
loop-log-preserved g c =
    let old = g.B.Berth.meaning c.args.berth.now in
    let mid = g.B.Berth.meaning c.loop-log.berth in
    let new = g.B.Berth.meaning c.next.new.berth in
    let scan = c.loop-log.scan in
    let later = c.in-Record.later in
    let flush = c.in-Record.flush in
    let so_far = c.loop-log.invariant.reached in
    let told_mid = λ (told : IsTrue old.tells). subst IsTrue (sym c.loop-log.invariant.passes.tells) told in
    let step = λ (told : IsTrue old.tells).
    subst (λ (p : Pair). scan.len ≡ length p.disk → Scanned p.disk so_far.records scan.at → StepIs p.disk so_far.records scan.len c.in_ok-log.field-0) (c.loop-log.invariant.stays told).held
    (c.in_ok-log.ensures.step so_far.records (told_mid told)) (so_far.len told) (so_far.scanned told) in
    let next = λ (told : IsTrue old.tells). subst (StepIs old.held.disk so_far.records scan.len) c.in-Record.is (step told) in
    let goes = subst (ScansOn scan) c.in-Record.is c.in_ok-log.ensures.goes_on in
    record {
      reached = reached_more c.args.names.now old.tells old.held.disk scan (map bare c.loop-log.tables.items) (map columns_of c.loop-log.tables.items) so_far later flush (map bare c.apply.new.tables.items) (map columns_of c.apply.new.tables.items) next goes (search rules) (search rules);
      passes = passes_on old mid new c.loop-log.invariant.passes c.next.ensures.time;
      stays = λ told. stays_on old mid new c.loop-log.invariant.passes c.next.ensures.time (c.loop-log.invariant.stays told) (c.next.ensures.stays (told_mid told));
    }
