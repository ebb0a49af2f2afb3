use Rattle.std.specs.VecDeque.{deque_len}
use Rattle.row_count.proofs.Counts.{AreCounted}
use Rattle.row_count.proofs.count.count_rows.Given as goal

abbrev pub invariant-loop-count : goal.invariant-loop-count
invariant-loop-count g l = AreCounted l.fn.range l.text l.lines l.rows l.counts.items

abbrev pub decreases-loop-count : goal.decreases-loop-count
decreases-loop-count g l = deque_len l.counts
