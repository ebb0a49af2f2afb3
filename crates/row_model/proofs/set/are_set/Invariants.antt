use Rattle.std.proofs.Common.{◌≡◌, ℕ, ◌+◌, ◌<◌, [], take, slice_index_or}
use Rattle.std.specs.Str.{IsUtf8}
use Rattle.row_model.specs.Values.{bytes_in}
use Rattle.row_model.specs.Sets.{GoesUp}
use Rattle.row_model.proofs.set.are_set.Given as goal

abbrev pub invariant-loop-i : goal.invariant-loop-i
invariant-loop-i l = record {
  up : (k : ℕ) → k < l.i → GoesUp l.texts k;
  utf8 : (k : ℕ) → k < l.i → IsUtf8 (slice_index_or l.texts k []);
  left : l.left + bytes_in (take l.i l.texts) ≡ 65535;
}
