use Rattle.std.proofs.Common.{◌≡◌, map, take}
use Rattle.block_scan.specs.Reads.{columns_of, row_of}
use Rattle.block_scan.proofs.rows.rows_at.Given as goal

abbrev pub invariant-loop-place : goal.invariant-loop-place
invariant-loop-place l = l.rows.items ≡ map (row_of l.times (columns_of l.read)) (take l.place-index l.places)
