use Rattle.std.proofs.Common.{◌≡◌, ◌++◌, take}
use Rattle.std.specs.List.{flat_map}
use Rattle.region_layout.specs.Written.{table_bytes}
use Rattle.region_layout.proofs.directory_writer.put_tables.Given as goal

abbrev pub invariant-loop-table : goal.invariant-loop-table
invariant-loop-table l = l.out.items ≡ l.initial.out.items ++ flat_map table_bytes (take l.table-index l.tables)
