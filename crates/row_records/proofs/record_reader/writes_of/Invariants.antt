use Rattle.std.proofs.Common.{◌≡◌, ◌-◌}
use Rattle.row_records.specs.Reading.{writes_at}
use Rattle.row_records.proofs.Loop.{with_front}
use Rattle.row_records.proofs.record_reader.writes_of.Given as goal

abbrev pub invariant-loop : goal.invariant-loop
invariant-loop l = with_front l.writes.items (writes_at (l.count - l.counter) l.rest) ≡ writes_at l.count l.bytes
