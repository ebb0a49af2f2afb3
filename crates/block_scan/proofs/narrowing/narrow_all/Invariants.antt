use Rattle.std.proofs.Common.{◌≡◌, ◌<◌, filter, length, take}
use Rattle.std.specs.List.{AllByRecursion}
use Rattle.block_scan.specs.Decoded.{conds_hold}
use Rattle.block_scan.specs.Reads.{columns_of, row_of}
use Rattle.block_scan.proofs.narrowing.narrow_all.Given as goal

abbrev pub invariant-loop-cond : goal.invariant-loop-cond
invariant-loop-cond l = record {
  inside : AllByRecursion (λ place. place < length l.times) l.left.items;
  left : l.left.items ≡ filter (λ i. conds_hold (take l.cond-index l.conds) (row_of l.times (columns_of l.read) i)) l.fn.places.items;
}
