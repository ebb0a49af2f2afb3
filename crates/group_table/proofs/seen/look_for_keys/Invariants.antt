use Rattle.std.proofs.Common.{◌≡◌, ◌++◌, take, map}
use Rattle.row_model.specs.declared.rows.Row.{Row}
use Rattle.leaf_model.specs.Looks.{sought_in}
use Rattle.group_table.specs.Reads.{values_in}
use Rattle.group_table.proofs.seen.look_for_keys.Given as goal

abbrev pub invariant-loop-name : goal.invariant-loop-name
invariant-loop-name l = (row : Row) → map (sought_in row) l.sought.items ≡ map (sought_in row) l.fn.sought.items ++ values_in row (take l.name-index l.names)
