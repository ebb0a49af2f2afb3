use Rattle.std.proofs.Common.{◌≡◌, ℕ, ◌<◌, slice_index}
use Rattle.bit_columns.specs.Bits.{code}
use Rattle.bit_columns.proofs.decode.fill_by_words.Given as goal

abbrev pub invariant-loop-i : goal.invariant-loop-i
invariant-loop-i l = (k : ℕ) → k < l.i → slice_index l.out k ≡ code l.bytes l.width k
