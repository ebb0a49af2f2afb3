use Rattle.std.specs.VecDeque.{deque_len}
use Rattle.block_scan.proofs.Merged.{AreMerged}
use Rattle.block_scan.proofs.parts.fold_blocks.Given as goal

abbrev pub invariant-loop-part : goal.invariant-loop-part
invariant-loop-part g l = AreMerged l.query l.views l.all l.rest.items

abbrev pub decreases-loop-part : goal.decreases-loop-part
decreases-loop-part g l = deque_len l.rest
