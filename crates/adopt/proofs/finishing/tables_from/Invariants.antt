use Rattle.std.specs.VecDeque.{deque_len}
use Rattle.adopt.specs.Finishing.{MadeSoFar, table_from, after_table, IsMade}
use Rattle.adopt.proofs.finishing.tables_from.Given as goal

abbrev pub invariant-loop-table : goal.invariant-loop-table
invariant-loop-table l = MadeSoFar table_from after_table IsMade l.fn.tables.items l.initial.columns.items l.made.items l.rest.items l.columns.items

abbrev pub decreases-loop-table : goal.decreases-loop-table
decreases-loop-table l = deque_len l.rest
