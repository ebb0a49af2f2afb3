use Rattle.std.proofs.Common.{◌∙◌}
use Rattle.std.specs.VecDeque.{deque_len}
use Rattle.drain_copy.proofs.Laying.{moved_on, counted_on}
use Rattle.drain_copy.proofs.moving.move_tables.Goals as goal

pub loop-table-preserved : goal.loop-table-preserved
loop-table-preserved c =
    let before = c.loop-table in
    let table = c.in-Some.table in
    let rest = c.pop_front.new.self.items in
    let blocks = c.into_inner.result.items in
    record {
      items = moved_on before.out.items c.move_blocks.new.out.items table rest before.rest.items blocks _ c.into_inner.ensures c.move_blocks.ensures.items c.in-Some.ensures.items before.invariant.items;
      len = counted_on (deque_len before.out) (deque_len c.move_blocks.new.out) table rest before.rest.items blocks _ c.into_inner.ensures c.move_blocks.ensures.len c.in-Some.ensures.items before.invariant.len;
      capacity = c.move_blocks.ensures.capacity ∙ before.invariant.capacity;
    }
