use Rattle.std.proofs.Common.{◌≡◌, drop}
use Rattle.region_layout.specs.Tests.{end_by, end_of_block}
use Rattle.region_layout.proofs.rules.end_of_blocks.Given as goal

abbrev pub invariant-loop-block : goal.invariant-loop-block
invariant-loop-block l = end_by end_of_block l.at (drop l.block-index l.blocks) ≡ end_by end_of_block l.fn.from l.blocks
