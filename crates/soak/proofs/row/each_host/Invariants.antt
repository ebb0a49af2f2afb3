use Rattle.soak.specs.Hosts.{AreFirst}
use Rattle.soak.proofs.row.each_host.Given as goal

abbrev pub invariant-loop-host : goal.invariant-loop-host
invariant-loop-host l = AreFirst l.host l.cells.items
