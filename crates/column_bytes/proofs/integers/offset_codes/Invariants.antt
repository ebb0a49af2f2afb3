use Rattle.std.proofs.Common.{◌≡◌, ℕ, ◌<◌, ◌+ℤ◌, length, slice_index, slice_index_or, pos, w64, FitsSigned}
use Rattle.column_bytes.proofs.integers.offset_codes.Given as goal

abbrev pub invariant-loop-integer : goal.invariant-loop-integer
invariant-loop-integer l = record {
  same : length l.codes.items ≡ l.integer-index;
  each : (i : ℕ) → i < l.integer-index → l.base +ℤ pos (slice_index l.codes.items i) ≡ slice_index_or l.integers i (pos 0);
  fit : (i : ℕ) → i < l.integer-index → FitsSigned w64 (slice_index_or l.integers i (pos 0));
}
