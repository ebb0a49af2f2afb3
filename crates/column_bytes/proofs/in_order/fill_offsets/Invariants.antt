use Rattle.std.proofs.Common.{◌≡◌, ℕ, ◌<◌, ◌+ℤ◌, pos, w64, FitsSigned, slice_index, slice_index_or}
use Rattle.column_bytes.proofs.in_order.fill_offsets.Given as goal

abbrev pub invariant-loop-i : goal.invariant-loop-i
invariant-loop-i l = (k : ℕ) → k < l.i → FitsSigned w64 (l.base +ℤ pos (slice_index l.codes k)) → slice_index_or l.values k (pos 0) ≡ l.base +ℤ pos (slice_index l.codes k)
