use Rattle.std.proofs.Common.{◌≡◌, ℕ, ◌*◌, ◌<◌, length, slice_index_or, pos}
use Rattle.dictionaries.specs.Fields.{i64_at}
use Rattle.column_bytes.proofs.integers.integer_bytes.Given as goal

abbrev pub invariant-loop-integer : goal.invariant-loop-integer
invariant-loop-integer l = record {
  len : length l.bytes.items ≡ 8 * l.integer-index;
  each : (i : ℕ) → i < l.integer-index → i64_at l.bytes.items (8 * i) ≡ slice_index_or l.integers i (pos 0);
}
