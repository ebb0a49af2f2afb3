use Rattle.std.specs.VecDeque.{deque_len}
use Rattle.aggregator.proofs.Sorted.{Sorting}
use Rattle.aggregator.proofs.sorting.sort_all.Given as goal

abbrev pub invariant-loop-reply : goal.invariant-loop-reply
invariant-loop-reply l = Sorting l.fn.replies.items l.leaf l.rest.items l.fanned

abbrev pub decreases-loop-reply : goal.decreases-loop-reply
decreases-loop-reply l = deque_len l.rest
