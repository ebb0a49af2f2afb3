use Rattle.std.specs.Prelude.{◌+◌, ◌≤◌}
use Rattle.std.specs.VecDeque.{deque_len}
use Rattle.table_state.specs.Tables.{added_count, columns_most}
use Rattle.log_recovery.proofs.Replaying.{Replayed}
use Rattle.log_recovery.proofs.apply.replay_all.Given as goal

abbrev pub invariant-loop-write : goal.invariant-loop-write
invariant-loop-write l =
    record {
      replayed : Replayed l.fn.table l.fn.writes.items l.rest.items l.table;
      columns : columns_most l.table.store + added_count l.rest.items ≤ columns_most l.fn.table.store + added_count l.fn.writes.items;
    }

abbrev pub decreases-loop-write : goal.decreases-loop-write
decreases-loop-write l = deque_len l.rest
