use Rattle.std.proofs.Common.{IsTrue, subst, sym}
use Rattle.berth_face.specs.Berth.{Pair, Torn}
use Rattle.berth_face.proofs.Moments.{now_of}
use Rattle.berth_face.proofs.Steps.{syncs}
use Rattle.disk_backup.specs.Scanning.{StepsFrom}
use Rattle.disk_backup.proofs.Beginning.{gate_written, gate_torn}
use Rattle.disk_backup.proofs.gate.put_gate.Goals as goal

pub returns-clause-moments : goal.returns-clause-moments
returns-clause-moments g c =
    λ told.
    let old = g.B.Berth.meaning c.args.berth.now in
    let mid = g.B.Berth.meaning c.disk_write.new.self in
    let new = g.B.Berth.meaning c.disk_sync.new.self in
    let wrote = gate_written c.disk_write.result old mid c.disk_write.ensures.time (c.disk_write.ensures.told told) in
    let told_mid : IsTrue mid.tells = subst IsTrue (sym c.disk_write.ensures.time.tells) told in
    syncs c.disk_sync.result old mid new (StepsFrom (Torn 0 1) old) wrote (now_of old mid (StepsFrom (Torn 0 1) old) wrote) c.disk_sync.ensures.time (c.disk_sync.ensures.told told_mid)

pub returns-clause-held : goal.returns-clause-held
returns-clause-held g c =
    λ told.
    let old = g.B.Berth.meaning c.args.berth.now in
    let mid = g.B.Berth.meaning c.disk_write.new.self in
    let told_mid : IsTrue mid.tells = subst IsTrue (sym c.disk_write.ensures.time.tells) told in
    subst (λ (p : Pair). Torn 0 1 old.held.disk p.disk) (sym (c.disk_sync.ensures.told told_mid).held) (gate_torn old.held.disk mid.held.disk (c.in_ok-disk_write.ensures.told told).ok)
