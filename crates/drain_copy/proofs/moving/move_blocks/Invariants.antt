use Rattle.std.proofs.Common.{◌≡◌, ◌+◌, ◌++◌}
use Rattle.std.specs.VecDeque.{deque_capacity, deque_len}
use Rattle.row_blocks.specs.Held.{columns_count}
use Rattle.drain_copy.specs.Planned.{blocks_bytes}
use Rattle.drain_copy.proofs.moving.move_blocks.Given as goal

-- the columns so far and those of what is left are those of all
abbrev pub invariant-loop-block : goal.invariant-loop-block
invariant-loop-block l = record {
  items : l.out.items ++ blocks_bytes l.rest.items ≡ l.fn.out.items ++ blocks_bytes l.fn.blocks.items;
  len : deque_len l.out + columns_count l.rest.items ≡ deque_len l.fn.out + columns_count l.fn.blocks.items;
  capacity : deque_capacity l.out ≡ deque_capacity l.fn.out;
}

abbrev pub decreases-loop-block : goal.decreases-loop-block
decreases-loop-block l = deque_len l.rest
