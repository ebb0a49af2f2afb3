use Rattle.std.proofs.Common.{◌≡◌, [], take}
use Rattle.log_recovery.specs.Recovery.{recovered_tables}
use Rattle.log_recovery.proofs.apply.empty_tables.Given as goal

abbrev pub invariant-loop-name : goal.invariant-loop-name
invariant-loop-name l = l.tables.items ≡ recovered_tables (take l._name-index l._name-items) []
