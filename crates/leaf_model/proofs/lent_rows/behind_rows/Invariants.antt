use Rattle.std.proofs.Common.{◌-◌}
use Rattle.leaf_model.specs.Reading.{rows_at}
use Rattle.leaf_model.proofs.LentLaws.{Passes}
use Rattle.leaf_model.proofs.lent_rows.behind_rows.Given as goal

abbrev pub invariant-loop : goal.invariant-loop
invariant-loop l = Passes (rows_at (l.count - l.counter) l.rest) (rows_at l.count l.bytes)
