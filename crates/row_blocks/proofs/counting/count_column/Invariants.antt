use Rattle.std.proofs.Common.{◌≡◌, ℕ, ◌+◌, ◌-◌, ◌<◌, ◌≤◌, length, is_some, slice_index}
use Rattle.std.specs.Int.{from_bool}
use Rattle.column_bytes.specs.Cells.{cell_at}
use Rattle.row_blocks.proofs.counting.count_column.Given as goal

abbrev pub decreases-loop-i : goal.decreases-loop-i
decreases-loop-i l = length l.view.codes - l.from

abbrev pub invariant-loop-i : goal.invariant-loop-i
invariant-loop-i l = record {
  done : (k : ℕ) → k < l.from → k < length l.counts → slice_index l.counts k ≡ slice_index l.initial.counts k + from_bool (is_some (cell_at l.view k));
  ahead : (k : ℕ) → l.from ≤ k → slice_index l.counts k ≡ slice_index l.initial.counts k;
  few : (k : ℕ) → k < length l.counts → slice_index l.counts k ≤ 1024;
}
