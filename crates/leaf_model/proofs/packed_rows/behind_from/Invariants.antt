use Rattle.std.proofs.Common.{◌-◌}
use Rattle.leaf_model.specs.Reading.{rows_at}
use Rattle.leaf_model.specs.Packed.{packed_rows, AreFrom}
use Rattle.leaf_model.proofs.LentLaws.{Passes}
use Rattle.leaf_model.proofs.packed_rows.behind_from.Given as goal

abbrev pub invariant-loop : goal.invariant-loop
invariant-loop l = record {
  passes : Passes (rows_at (l.count - l.counter) l.rest) (rows_at l.count l.bytes);
  all : AreFrom l.horizon (packed_rows (l.count - l.counter) l.rest) → AreFrom l.horizon (packed_rows l.count l.bytes);
}
