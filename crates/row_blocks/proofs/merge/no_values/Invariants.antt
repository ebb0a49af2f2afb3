use Rattle.std.proofs.Common.{◌≡◌, length}
use Rattle.row_blocks.proofs.merge.no_values.Given as goal

abbrev pub invariant-loop-i : goal.invariant-loop-i
invariant-loop-i l = length l.values.items ≡ l._i
