use Rattle.std.proofs.Common.{◌≡◌, ◌++◌, take}
use Rattle.std.specs.List.{flat_map}
use Rattle.region_layout.specs.Written.{block_bytes}
use Rattle.region_layout.proofs.directory_writer.put_blocks.Given as goal

abbrev pub invariant-loop-block : goal.invariant-loop-block
invariant-loop-block l = l.out.items ≡ l.initial.out.items ++ flat_map block_bytes (take l.block-index l.blocks)
