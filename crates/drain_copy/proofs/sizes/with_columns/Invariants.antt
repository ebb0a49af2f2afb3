use Rattle.std.proofs.Common.{◌≡◌, ◌+◌, length, drop}
use Rattle.std.specs.List.{AllByRecursion}
use Rattle.drain_copy.specs.Planned.{IsShortColumn, capped, columns_entries, columns_size}
use Rattle.drain_copy.proofs.sizes.with_columns.Given as goal

-- the numbers so far and those of what is left are those of all; where what is left is short, all is
abbrev pub invariant-loop-column : goal.invariant-loop-column
invariant-loop-column l = record {
  columns : capped (l.sizes.columns + length (drop l.column-index l.columns)) ≡ capped (l.fn.start.columns + length l.columns);
  bytes : capped (l.sizes.bytes + columns_size (drop l.column-index l.columns)) ≡ capped (l.fn.start.bytes + columns_size l.columns);
  entries : capped (l.sizes.entries + columns_entries (drop l.column-index l.columns)) ≡ capped (l.fn.start.entries + columns_entries l.columns);
  short : AllByRecursion IsShortColumn (drop l.column-index l.columns) → AllByRecursion IsShortColumn l.columns;
}
