use Rattle.std.proofs.Common.{◌≡◌, ◌+◌, ◌++◌, length}
use Rattle.std.specs.VecDeque.{deque_capacity, deque_len}
use Rattle.drain_copy.specs.Planned.{columns_bytes}
use Rattle.drain_copy.proofs.moving.move_columns.Given as goal

-- the columns so far and those of what is left are those of all
abbrev pub invariant-loop-column : goal.invariant-loop-column
invariant-loop-column l = record {
  items : l.out.items ++ columns_bytes l.rest.items ≡ l.fn.out.items ++ columns_bytes l.fn.columns.items;
  len : deque_len l.out + length l.rest.items ≡ deque_len l.fn.out + length l.fn.columns.items;
  capacity : deque_capacity l.out ≡ deque_capacity l.fn.out;
}

abbrev pub decreases-loop-column : goal.decreases-loop-column
decreases-loop-column l = deque_len l.rest
