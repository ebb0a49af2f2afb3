use Rattle.std.proofs.Common.{◌≡◌, ◌+◌, ◌++◌, drop}
use Rattle.drain_copy.specs.Planned.{blocks_from, blocks_size}
use Rattle.drain_copy.proofs.places.blocks_from.Given as goal

-- the places so far and those of what is left are those of all
abbrev pub invariant-loop-block : goal.invariant-loop-block
invariant-loop-block l = record {
  made : l.made.items ++ blocks_from l.at (drop l.block-index l.blocks) ≡ blocks_from l.fn.at l.blocks;
  at : l.at + blocks_size (drop l.block-index l.blocks) ≡ l.fn.at + blocks_size l.blocks;
}
