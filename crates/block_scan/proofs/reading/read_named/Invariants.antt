use Rattle.std.proofs.Common.{◌≡◌, ◌+◌, ◌≤◌, length, take, drop}
use Rattle.std.specs.List.{AllByRecursion}
use Rattle.block_scan.specs.Reads.{IsRead, columns_of}
use Rattle.block_scan.specs.Scanning.{named_columns}
use Rattle.block_scan.proofs.reading.read_named.Given as goal

abbrev pub invariant-loop-column : goal.invariant-loop-column
invariant-loop-column g l = record {
  columns : columns_of l.read.items ≡ named_columns l.query (take l.column-index l.columns);
  read : AllByRecursion (IsRead l.rows) l.read.items;
  steps : l.steps + length (named_columns l.query (drop l.column-index l.columns)) ≤ l.initial.steps + length (named_columns l.query l.columns);
}
