use Rattle.std.proofs.Common.{◌≡◌, ℕ, ◌<◌, true, false, slice_index_or}
use Rattle.column_bytes.proofs.writer.are_all_there.Given as goal

abbrev pub invariant-loop-there : goal.invariant-loop-there
invariant-loop-there l = (k : ℕ) → k < l.there-index → slice_index_or l.present k false ≡ true
