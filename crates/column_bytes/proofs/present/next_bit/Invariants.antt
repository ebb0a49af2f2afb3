use Rattle.std.proofs.Common.{◌≡◌, ℕ, ◌*◌, ◌<◌, ◌≤◌, false}
use Rattle.bit_columns.specs.Bits.{is_present}
use Rattle.column_bytes.proofs.present.next_bit.Given as goal

abbrev pub invariant-loop-k : goal.invariant-loop-k
invariant-loop-k l = (i : ℕ) → l.from ≤ i → i < 8 * l.k → i < l.count → is_present l.bits.bytes i ≡ false
