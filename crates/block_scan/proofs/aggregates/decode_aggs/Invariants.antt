use Rattle.std.proofs.Common.{length, take}
use Rattle.block_scan.specs.Reads.{columns_of, row_of}
use Rattle.block_scan.specs.Slots.{AreOfAggs}
use Rattle.block_scan.proofs.aggregates.decode_aggs.Given as goal

abbrev pub invariant-loop-agg : goal.invariant-loop-agg
invariant-loop-agg l = AreOfAggs (length l.times) (row_of l.times (columns_of l.read)) (take l.agg-index l.aggs) l.all.items
