use Rattle.std.proofs.Common.{◌≡◌, take}
use Rattle.row_blocks.specs.Blocks.{cells_at}
use Rattle.block_scan.specs.Reads.{columns_of}
use Rattle.block_scan.proofs.rows.cells_at.Given as goal

abbrev pub invariant-loop-one : goal.invariant-loop-one
invariant-loop-one l = l.cells.items ≡ cells_at l.place (columns_of (take l.one-index l.read))
