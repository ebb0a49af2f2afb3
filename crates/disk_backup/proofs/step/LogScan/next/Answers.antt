use Rattle.std.proofs.Common.{◌<◌, ◌∙◌, ℕ, ap, subst, sym}
use Rattle.disk_backup.specs.State.{ScanState}
use Rattle.disk_backup.specs.Scanning.{Scanned, Damaged}
use Rattle.disk_backup.proofs.Scanned.{never_damaged}
use Rattle.disk_backup.proofs.step.LogScan.next.Goals as goal

pub returns-clause-damaged : goal.returns-clause-damaged
returns-clause-damaged g c =
    λ records told len scanned e.
    let disk = (g.B.Berth.meaning c.args.berth.now).held.disk in
    let at = ap (λ (s : ScanState). s.at) c.self.view_is in
    subst (λ (n : ℕ). Damaged disk n) at (c.step.ensures.damaged records told (ap (λ (s : ScanState). s.len) c.self.view_is ∙ len) (subst (Scanned disk records) (sym at) scanned) e)

pub returns-clause-sound : goal.returns-clause-sound
returns-clause-sound g c =
    λ records all end told len scanned log long e.
    let disk = (g.B.Berth.meaning c.args.berth.now).held.disk in
    let at = ap (λ (s : ScanState). s.at) c.self.view_is in
    let damaged = subst (λ (n : ℕ). Damaged disk n) at (c.step.ensures.damaged records told (ap (λ (s : ScanState). s.len) c.self.view_is ∙ len) (subst (Scanned disk records) (sym at) scanned) e) in
    never_damaged disk records all c.args.self.at end (subst (λ (n : ℕ). 1 < n) len long) log scanned damaged
