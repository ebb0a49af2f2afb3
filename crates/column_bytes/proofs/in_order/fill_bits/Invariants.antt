use Rattle.std.proofs.Common.{◌≡◌, ℕ, ◌<◌, false, slice_index_or}
use Rattle.bit_columns.specs.Bits.{is_present}
use Rattle.column_bytes.proofs.in_order.fill_bits.Given as goal

abbrev pub invariant-loop-i : goal.invariant-loop-i
invariant-loop-i l = (k : ℕ) → k < l.i → slice_index_or l.present k false ≡ is_present l.bits.bytes k
