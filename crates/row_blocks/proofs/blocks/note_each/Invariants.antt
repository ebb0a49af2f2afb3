use Rattle.std.proofs.Common.{◌≡◌}
use Rattle.row_blocks.proofs.blocks.note_each.Given as goal

abbrev pub invariant-loop-place : goal.invariant-loop-place
invariant-loop-place l = l.blocks.items ≡ l.initial.blocks.items
