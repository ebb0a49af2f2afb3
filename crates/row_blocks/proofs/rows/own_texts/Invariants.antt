use Rattle.std.proofs.Common.{◌≡◌, take}
use Rattle.row_blocks.proofs.rows.own_texts.Given as goal

abbrev pub invariant-loop-i : goal.invariant-loop-i
invariant-loop-i l = l.texts.items ≡ take l.i l.members
