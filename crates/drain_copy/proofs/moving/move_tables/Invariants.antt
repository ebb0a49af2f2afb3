use Rattle.std.proofs.Common.{◌≡◌, ◌+◌, ◌++◌}
use Rattle.std.specs.VecDeque.{deque_capacity, deque_len}
use Rattle.region_layout.specs.Drained.{all_columns}
use Rattle.drain_copy.specs.Planned.{tables_count}
use Rattle.drain_copy.proofs.moving.move_tables.Given as goal

-- the columns so far and those of what is left are those of all
abbrev pub invariant-loop-table : goal.invariant-loop-table
invariant-loop-table l = record {
  items : l.out.items ++ all_columns l.rest.items ≡ l.fn.out.items ++ all_columns l.fn.tables.items;
  len : deque_len l.out + tables_count l.rest.items ≡ deque_len l.fn.out + tables_count l.fn.tables.items;
  capacity : deque_capacity l.out ≡ deque_capacity l.fn.out;
}

abbrev pub decreases-loop-table : goal.decreases-loop-table
decreases-loop-table l = deque_len l.rest
