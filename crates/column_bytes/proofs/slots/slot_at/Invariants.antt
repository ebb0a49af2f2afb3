use Rattle.std.proofs.Common.{◌≡◌, ◌-◌}
use Rattle.bit_columns.specs.Bits.{codes}
use Rattle.delta_codes.specs.Slots.{slot}
use Rattle.column_bytes.specs.Cells.{anchors_at}
use Rattle.column_bytes.proofs.slots.slot_at.Given as goal

abbrev pub invariant-loop-k : goal.invariant-loop-k
invariant-loop-k l = l.value ≡ slot (anchors_at l.packed.count l.extra) (codes l.packed.bytes l.packed.width l.packed.count) (l.k - 1)
