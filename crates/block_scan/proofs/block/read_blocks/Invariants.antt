use Rattle.block_scan.proofs.Scanned.{AreSeen}
use Rattle.block_scan.proofs.block.read_blocks.Given as goal

abbrev pub invariant-loop-block : goal.invariant-loop-block
invariant-loop-block g l = AreSeen l.query l.blocks l.skip l.horizon l.initial.steps l.block-index l.cut l.steps l.views.items
