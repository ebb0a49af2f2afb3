use Rattle.std.specs.VecDeque.{deque_len}
use Rattle.row_blocks.specs.Blocks.{IsBlock}
use Rattle.adopt.specs.Finishing.{MadeSoFar, block_from, after_block}
use Rattle.adopt.proofs.finishing.blocks_from.Given as goal

abbrev pub invariant-loop-block : goal.invariant-loop-block
invariant-loop-block l = MadeSoFar block_from after_block IsBlock l.fn.blocks.items l.initial.columns.items l.made.items l.rest.items l.columns.items

abbrev pub decreases-loop-block : goal.decreases-loop-block
decreases-loop-block l = deque_len l.rest
