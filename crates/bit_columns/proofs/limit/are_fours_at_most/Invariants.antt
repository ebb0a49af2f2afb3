use Rattle.std.proofs.Common.{ℕ, ◌*◌, ◌<◌, ◌≤◌}
use Rattle.bit_columns.specs.Bits.{code}
use Rattle.bit_columns.proofs.limit.are_fours_at_most.Given as goal

abbrev pub invariant-loop-i : goal.invariant-loop-i
invariant-loop-i l = (k : ℕ) → k < l.i * 4 → code l.bytes l.width k ≤ l.most
