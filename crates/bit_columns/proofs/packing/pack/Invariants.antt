use Rattle.std.proofs.Common.{◌≡◌, ◌*◌, take}
use Rattle.bit_columns.proofs.Joined.{joined}
use Rattle.bit_columns.proofs.packing.pack.Given as goal

abbrev pub invariant-loop-value : goal.invariant-loop-value
invariant-loop-value l = record { value : l.writer.value ≡ joined l.width (take l.value-index l.values); bits : l.writer.bits ≡ l.value-index * l.width }
