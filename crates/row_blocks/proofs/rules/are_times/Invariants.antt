use Rattle.std.proofs.Common.{ℕ, ◌<◌, pos, false, Some, None, slice_index_or, if◌then◌else◌}
use Rattle.row_model.specs.declared.rows.Value.TheVariants.{Int}
use Rattle.row_blocks.specs.Blocks.{IsTimeCell}
use Rattle.row_blocks.proofs.rules.are_times.Given as goal

abbrev pub invariant-loop-i : goal.invariant-loop-i
invariant-loop-i l = (k : ℕ) → k < l.i → IsTimeCell (if slice_index_or l.present k false then Some (Int (slice_index_or l.times k (pos 0))) else None)
