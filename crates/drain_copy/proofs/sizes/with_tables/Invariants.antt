use Rattle.std.proofs.Common.{◌≡◌, ◌+◌, drop}
use Rattle.std.specs.List.{AllByRecursion}
use Rattle.drain_copy.specs.Planned.{HasShort, capped, tables_count, tables_entries, tables_size}
use Rattle.drain_copy.proofs.sizes.with_tables.Given as goal

-- the numbers so far and those of what is left are those of all; where what is left is short, all is
abbrev pub invariant-loop-table : goal.invariant-loop-table
invariant-loop-table l = record {
  columns : capped (l.sizes.columns + tables_count (drop l.table-index l.tables)) ≡ capped (l.fn.start.columns + tables_count l.tables);
  bytes : capped (l.sizes.bytes + tables_size (drop l.table-index l.tables)) ≡ capped (l.fn.start.bytes + tables_size l.tables);
  entries : capped (l.sizes.entries + tables_entries (drop l.table-index l.tables)) ≡ capped (l.fn.start.entries + tables_entries l.tables);
  short : AllByRecursion HasShort (drop l.table-index l.tables) → AllByRecursion HasShort l.tables;
}
