use Rattle.std.proofs.Common.{◌≡◌, ◌+◌, ◌++◌, drop}
use Rattle.drain_copy.specs.Planned.{tables_from, tables_size}
use Rattle.drain_copy.proofs.places.tables_from.Given as goal

-- the places so far and those of what is left are those of all
abbrev pub invariant-loop-table : goal.invariant-loop-table
invariant-loop-table l = record {
  made : l.made.items ++ tables_from l.at (drop l.table-index l.tables) ≡ tables_from l.fn.at l.tables;
  at : l.at + tables_size (drop l.table-index l.tables) ≡ l.fn.at + tables_size l.tables;
}
