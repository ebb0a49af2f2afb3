use Rattle.std.proofs.Common.{◌≡◌, ◌++◌, drop}
use Rattle.std.specs.List.{flat_map}
use Rattle.adopt.specs.Taken.{block_spans}
use Rattle.adopt.proofs.spans.push_blocks.Given as goal

-- what was pushed, and what is left to push
abbrev pub invariant-loop-block : goal.invariant-loop-block
invariant-loop-block l = l.spans.items ++ flat_map block_spans (drop l.block-index l.blocks) ≡ l.initial.spans.items ++ flat_map block_spans l.blocks
