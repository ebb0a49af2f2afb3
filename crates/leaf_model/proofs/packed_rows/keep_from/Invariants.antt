use Rattle.std.proofs.Common.{length}
use Rattle.leaf_model.specs.Packed.{packed_rows}
use Rattle.leaf_model.proofs.PackedLaws.{IsMoved}
use Rattle.leaf_model.proofs.packed_rows.keep_from.Given as goal

abbrev pub invariant-loop-place : goal.invariant-loop-place
invariant-loop-place l = IsMoved (packed_rows l.count l.initial.bytes) l.horizon l.bytes (length l.initial.bytes) l.place l.from l.to l.kept
