use Rattle.std.proofs.Common.{◌≡◌, ◌-◌}
use Rattle.row_records.proofs.Loop.{with_front}
use Rattle.leaf_model.specs.Reading.{many_at}
use Rattle.region_layout.specs.Directory.{table_at}
use Rattle.region_layout.proofs.directory_reader.tables_of.Given as goal

abbrev pub invariant-loop : goal.invariant-loop
invariant-loop l = with_front l.tables.items (many_at table_at (l.count - l.counter) l.rest) ≡ many_at table_at l.count l.bytes
