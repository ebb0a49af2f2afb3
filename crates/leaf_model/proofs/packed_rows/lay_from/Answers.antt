use Rattle.std.proofs.Common.{ap, length, arith}
use Rattle.row_model.specs.declared.rows.Row.{Row}
use Rattle.std.specs.Prelude.{List}
use Rattle.leaf_model.proofs.packed_rows.lay_from.Goals as goal

pub overflow_add-added : goal.overflow_add-added
overflow_add-added c = omega (arith, c.loop-first.invariant.few, c.len-most.ensures, ap (λ (w : List Row). length w) c.in-Some.ensures)
