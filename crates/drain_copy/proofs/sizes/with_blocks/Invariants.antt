use Rattle.std.proofs.Common.{◌≡◌, ◌+◌, drop}
use Rattle.std.specs.List.{AllByRecursion}
use Rattle.row_blocks.specs.Held.{columns_count}
use Rattle.drain_copy.specs.Planned.{AreShort, capped, blocks_entries, blocks_size}
use Rattle.drain_copy.proofs.sizes.with_blocks.Given as goal

-- the numbers so far and those of what is left are those of all; where what is left is short, all is
abbrev pub invariant-loop-block : goal.invariant-loop-block
invariant-loop-block l = record {
  columns : capped (l.sizes.columns + columns_count (drop l.block-index l.blocks)) ≡ capped (l.fn.start.columns + columns_count l.blocks);
  bytes : capped (l.sizes.bytes + blocks_size (drop l.block-index l.blocks)) ≡ capped (l.fn.start.bytes + blocks_size l.blocks);
  entries : capped (l.sizes.entries + blocks_entries (drop l.block-index l.blocks)) ≡ capped (l.fn.start.entries + blocks_entries l.blocks);
  short : AllByRecursion AreShort (drop l.block-index l.blocks) → AllByRecursion AreShort l.blocks;
}
