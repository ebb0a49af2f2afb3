use Rattle.std.specs.VecDeque.{deque_len}
use Rattle.row_blocks.specs.declared.column.BlockColumn.{BlockColumn}
use Rattle.adopt.specs.Finishing.{MadeSoFar, named_front, after_column}
use Rattle.adopt.proofs.finishing.columns_from.Given as goal

abbrev pub invariant-loop-place : goal.invariant-loop-place
invariant-loop-place l = MadeSoFar named_front after_column (λ (c : BlockColumn). Unit {0}) l.fn.places.items l.initial.columns.items l.made.items l.rest.items l.columns.items

abbrev pub decreases-loop-place : goal.decreases-loop-place
decreases-loop-place l = deque_len l.rest
