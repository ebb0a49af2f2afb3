use Rattle.std.proofs.Common.{◌≡◌, ◌-◌, ◌≤◌}
use Rattle.soak.specs.Hosts.{AreHosts}
use Rattle.soak.specs.Soak.{rows_between}
use Rattle.soak.proofs.draw.Draw.drawn.Given as goal

abbrev pub invariant-loop-self : goal.invariant-loop-self
invariant-loop-self l =
    (l.self.seed ≡ l.fn.self.seed)
    × (l.fn.self.next ≤ l.self.next)
    × (l.self.next ≤ l.end)
    × (l.rows ≡ rows_between l.fn.self.seed l.fn.self.next l.self.next)
    × AreHosts l.cells

abbrev pub decreases-loop-self : goal.decreases-loop-self
decreases-loop-self l = l.end - l.self.next
