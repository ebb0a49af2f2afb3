use Rattle.std.proofs.Common.{◌≡◌, ℕ, ◌+◌, ◌<◌, slice_index_or}
use Rattle.std.specs.declared.cmp.Ordering.TheVariants.{Less}
use Rattle.row_blocks.specs.Headings.{heading, heading_cmp}
use Rattle.row_blocks.specs.Places.{no_column}
use Rattle.row_blocks.proofs.rules.do_ascend.Given as goal

abbrev pub invariant-loop-i : goal.invariant-loop-i
invariant-loop-i l = (k : ℕ) → k + 1 < l.i → heading_cmp (heading (slice_index_or l.columns k no_column)) (heading (slice_index_or l.columns (k + 1) no_column)) ≡ Less
