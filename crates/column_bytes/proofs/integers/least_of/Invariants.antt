use Rattle.std.proofs.Common.{ℕ, ◌<◌, ◌≤ℤ◌, slice_index_or, pos}
use Rattle.column_bytes.proofs.integers.least_of.Given as goal

abbrev pub invariant-loop-integer : goal.invariant-loop-integer
invariant-loop-integer l = (i : ℕ) → i < l.integer-index → l.least ≤ℤ slice_index_or l.integers i (pos 0)
