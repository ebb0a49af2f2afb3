use Rattle.std.proofs.Common.{◌≡◌, ℕ, ◌<◌, None, length, slice_index_or}
use Rattle.row_blocks.proofs.runs.forget.Given as goal

abbrev pub invariant-loop-i : goal.invariant-loop-i
invariant-loop-i l = record {
  same : length l.values ≡ length l.fn.values;
  none : (k : ℕ) → k < l.i → slice_index_or l.values k None ≡ None;
}
