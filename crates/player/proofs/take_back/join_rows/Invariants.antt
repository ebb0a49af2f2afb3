use Rattle.leaf_table.specs.Lists.{lists_in}
use Rattle.player.specs.Returning.{RowsJoined}
use Rattle.player.proofs.take_back.join_rows.Given as goal

-- the rows before the table's were joined
abbrev pub invariant-loop-table : goal.invariant-loop-table
invariant-loop-table l = record {
  joins : RowsJoined l.table (lists_in l.fn.rows.items) (lists_in l.fn.others.items) (lists_in l.rows.items) (lists_in l.others.items);
}
