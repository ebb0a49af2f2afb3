use Rattle.std.proofs.Common.{◌≡◌, ◌-◌, []}
use Rattle.leaf_model.specs.Reading.{cells_at}
use Rattle.row_records.specs.Reading.{bytes_left_after}
use Rattle.row_records.proofs.row_test.behind_cells.Given as goal

abbrev pub invariant-loop : goal.invariant-loop
invariant-loop l = bytes_left_after (cells_at (l.count - l.counter) l.last l.rest) ≡ bytes_left_after (cells_at l.count [] l.bytes)
