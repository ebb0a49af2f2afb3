use Rattle.leaf_table.specs.Lists.{lists_in, HasRows}
use Rattle.leaf_table.proofs.fleet.empty_rows.Given as goal

abbrev pub invariant-loop-made : goal.invariant-loop-made
invariant-loop-made l = HasRows l.made 0 (lists_in l.rows.items)
