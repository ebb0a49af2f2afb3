use Rattle.std.proofs.Common.{◌-◌}
use Rattle.leaf_model.specs.Fronts.{any_cells_at}
use Rattle.leaf_model.proofs.LentLaws.{Passes}
use Rattle.leaf_model.proofs.lent_cells.behind_cells.Given as goal

abbrev pub invariant-loop : goal.invariant-loop
invariant-loop l = Passes (any_cells_at (l.count - l.counter) l.rest) (any_cells_at l.count l.bytes)
