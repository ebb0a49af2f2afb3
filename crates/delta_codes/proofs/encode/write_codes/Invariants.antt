use Rattle.std.proofs.Common.{◌≡◌, ℕ, ◌<◌, pos, w64, FitsSigned, slice_index, slice_index_or}
use Rattle.delta_codes.specs.Slots.{code_of}
use Rattle.delta_codes.proofs.encode.write_codes.Given as goal

abbrev pub invariant-loop-i : goal.invariant-loop-i
invariant-loop-i l = ((k : ℕ) → k < l.i → slice_index l.codes k ≡ code_of l.values k) × ((k : ℕ) → k < l.i → FitsSigned w64 (slice_index_or l.values k (pos 0)))
