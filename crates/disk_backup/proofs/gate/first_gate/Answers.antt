use Rattle.std.proofs.Common.{rules, ◌≡◌, ℕ, IsTrue, inl, ap, subst, sym}
use Rattle.berth_face.specs.Berth.{Pair, Torn}
use Rattle.berth_face.specs.Moments.{Throughout}
use Rattle.disk_backup.specs.Scanning.{StepsFrom, BeginsScan}
use Rattle.disk_backup.proofs.Beginning.{gate_first, gate_begins}
use Rattle.disk_backup.proofs.gate.first_gate.Goals as goal

pub returns-then-len-eq0-clause-moments : goal.returns-then-len-eq0-clause-moments
returns-then-len-eq0-clause-moments g c =
    λ told len.
    let old = g.B.Berth.meaning c.args.berth.now in
    let new = g.B.Berth.meaning c.put_gate.new.berth in
    let none : c.args.len ≡ 0 = search rules in
    subst (λ (n : ℕ). Throughout (StepsFrom (BeginsScan n) old) old new) (sym none) (gate_first old new (c.put_gate.ensures.moments told))

pub returns-then-len-eq0-clause-held : goal.returns-then-len-eq0-clause-held
returns-then-len-eq0-clause-held g c =
    λ told size.
    gate_begins c.args.len (g.B.Berth.meaning c.args.berth.now).held.disk (g.B.Berth.meaning c.put_gate.new.berth).held.disk c.requires size (c.put_gate.ensures.held told)

pub returns-in_err-disk_sync-clause-held : goal.returns-in_err-disk_sync-clause-held
returns-in_err-disk_sync-clause-held g c = λ told size. inl (ap (λ (p : Pair). p.disk) (c.disk_sync.ensures.told told).held)

pub returns-clause-held : goal.returns-clause-held
returns-clause-held g c =
    λ told size.
    let old = g.B.Berth.meaning c.args.berth.now in
    let mid = g.B.Berth.meaning c.disk_sync.new.self in
    let new = g.B.Berth.meaning c.put_gate-2.new.berth in
    let told_mid : IsTrue mid.tells = subst IsTrue (sym c.disk_sync.ensures.time.tells) told in
    gate_begins c.args.len old.held.disk new.held.disk c.requires size
    (subst (λ (p : Pair). Torn 0 1 p.disk new.held.disk) (c.disk_sync.ensures.told told).held (c.put_gate-2.ensures.held told_mid))
