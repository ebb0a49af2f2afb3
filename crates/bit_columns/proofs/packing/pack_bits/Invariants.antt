use Rattle.std.proofs.Common.{◌≡◌, ◌*◌, take, map}
use Rattle.bit_columns.proofs.Joined.{joined}
use Rattle.std.specs.Int.{from_bool}
use Rattle.bit_columns.proofs.packing.pack_bits.Given as goal

abbrev pub invariant-loop-bit : goal.invariant-loop-bit
invariant-loop-bit l = record { value : l.writer.value ≡ joined 1 (take l.bit-index (map from_bool l.bits)); bits : l.writer.bits ≡ l.bit-index * 1 }
