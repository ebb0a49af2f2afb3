use Rattle.std.proofs.Common.{◌∙◌, ℕ, length, IsTrue, ap, subst, sym}
use Rattle.berth_face.specs.Berth.{Pair}
use Rattle.berth_face.specs.Moments.{Throughout}
use Rattle.disk_backup.specs.Scanning.{StepsFrom, BeginsScan}
use Rattle.disk_backup.proofs.Beginning.{begins_after, begins_of}
use Rattle.disk_backup.proofs.step.LogScan.begin.Goals as goal

pub returns-in_err-first_gate-clause-moments : goal.returns-in_err-first_gate-clause-moments
returns-in_err-first_gate-clause-moments g c =
    λ told.
    let old = g.B.Berth.meaning c.args.berth.now in
    let mid = g.B.Berth.meaning c.disk_len.new.self in
    let new = g.B.Berth.meaning c.first_gate.new.berth in
    let read = c.in_ok-len.ensures.told told in
    let told_mid : IsTrue mid.tells = subst IsTrue (sym c.disk_len.ensures.time.tells) told in
    let size = read.0 ∙ sym (ap (λ (p : Pair). length p.disk) read.1.held) in
    subst (λ (n : ℕ). Throughout (StepsFrom (BeginsScan n) old) old new) read.0 (begins_after c.in_ok-len.len old mid new c.disk_len.ensures.time read.1 (c.first_gate.ensures.moments told_mid size))

pub returns-clause-moments : goal.returns-clause-moments
returns-clause-moments g c =
    λ told.
    let old = g.B.Berth.meaning c.args.berth.now in
    let mid = g.B.Berth.meaning c.disk_len.new.self in
    let new = g.B.Berth.meaning c.first_gate.new.berth in
    let read = c.in_ok-len.ensures.told told in
    let told_mid : IsTrue mid.tells = subst IsTrue (sym c.disk_len.ensures.time.tells) told in
    let size = read.0 ∙ sym (ap (λ (p : Pair). length p.disk) read.1.held) in
    subst (λ (n : ℕ). Throughout (StepsFrom (BeginsScan n) old) old new) read.0 (begins_after c.in_ok-len.len old mid new c.disk_len.ensures.time read.1 (c.first_gate.ensures.moments told_mid size))

pub returns-in_err-first_gate-clause-held : goal.returns-in_err-first_gate-clause-held
returns-in_err-first_gate-clause-held g c =
    λ told.
    let old = g.B.Berth.meaning c.args.berth.now in
    let mid = g.B.Berth.meaning c.disk_len.new.self in
    let new = g.B.Berth.meaning c.first_gate.new.berth in
    let read = c.in_ok-len.ensures.told told in
    let told_mid : IsTrue mid.tells = subst IsTrue (sym c.disk_len.ensures.time.tells) told in
    let size = read.0 ∙ sym (ap (λ (p : Pair). length p.disk) read.1.held) in
    begins_of c.in_ok-len.len old.held mid.held new.held.disk read.1.held read.0 (c.first_gate.ensures.held told_mid size)

pub returns-clause-held : goal.returns-clause-held
returns-clause-held g c =
    λ told.
    let old = g.B.Berth.meaning c.args.berth.now in
    let mid = g.B.Berth.meaning c.disk_len.new.self in
    let new = g.B.Berth.meaning c.first_gate.new.berth in
    let read = c.in_ok-len.ensures.told told in
    let told_mid : IsTrue mid.tells = subst IsTrue (sym c.disk_len.ensures.time.tells) told in
    let size = read.0 ∙ sym (ap (λ (p : Pair). length p.disk) read.1.held) in
    begins_of c.in_ok-len.len old.held mid.held new.held.disk read.1.held read.0 (c.first_gate.ensures.held told_mid size)
