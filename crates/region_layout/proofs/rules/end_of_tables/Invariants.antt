use Rattle.std.proofs.Common.{◌≡◌, drop}
use Rattle.region_layout.specs.Tests.{end_by, end_of_table}
use Rattle.region_layout.proofs.rules.end_of_tables.Given as goal

abbrev pub invariant-loop-table : goal.invariant-loop-table
invariant-loop-table l = end_by end_of_table l.at (drop l.table-index l.tables) ≡ end_by end_of_table l.fn.from l.tables
