use Rattle.std.proofs.Common.{◌≡◌, ◌++◌, take, map}
use Rattle.leaf_model.specs.declared.queries.Cond.{Cond}
use Rattle.row_model.specs.declared.rows.Row.{Row}
use Rattle.leaf_model.specs.Looks.{sought_in}
use Rattle.group_table.specs.Reads.{values_in}
use Rattle.group_table.proofs.seen.look_for_conds.Given as goal

abbrev pub invariant-loop-cond : goal.invariant-loop-cond
invariant-loop-cond l = (row : Row) → map (sought_in row) l.sought.items ≡ map (sought_in row) l.fn.sought.items ++ values_in row (map (λ (c : Cond). c.name) (take l.cond-index l.conds))
