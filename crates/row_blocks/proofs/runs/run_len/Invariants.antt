use Rattle.std.proofs.Common.{◌≡◌, ◌+◌, drop}
use Rattle.std.specs.List.{prefix_len}
use Rattle.leaf_model.specs.Lent.{lent_cell}
use Rattle.row_blocks.specs.Headings.{heading_of}
use Rattle.row_blocks.specs.Runs.{comes_under}
use Rattle.row_blocks.proofs.runs.run_len.Given as goal

abbrev pub invariant-loop-i : goal.invariant-loop-i
invariant-loop-i l = prefix_len (comes_under (heading_of (lent_cell l.like))) l.cells ≡ l.i + prefix_len (comes_under (heading_of (lent_cell l.like))) (drop l.i l.cells)
