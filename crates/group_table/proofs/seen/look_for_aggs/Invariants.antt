use Rattle.std.proofs.Common.{◌≡◌, ◌++◌, take, map}
use Rattle.row_model.specs.declared.rows.Row.{Row}
use Rattle.leaf_model.specs.Looks.{sought_in}
use Rattle.group_table.specs.Reads.{agg_name, values_in}
use Rattle.group_table.proofs.seen.look_for_aggs.Given as goal

abbrev pub invariant-loop-agg : goal.invariant-loop-agg
invariant-loop-agg l = (row : Row) → map (sought_in row) l.sought.items ≡ map (sought_in row) l.fn.sought.items ++ values_in row (map agg_name (take l.agg-index l.aggs))
