use Rattle.std.proofs.Common.{◌≡◌, ℕ, ◌+◌, ◌<◌, [], take, slice_index_or}
use Rattle.std.specs.Str.{IsUtf8}
use Rattle.row_model.specs.Values.{bytes_in}
use Rattle.row_model.specs.Sets.{GoesUp}
use Rattle.dictionaries.specs.Dictionary.{texts_at}
use Rattle.dictionaries.specs.Sets.{set_at}
use Rattle.dictionaries.proofs.sets.is_set_at.Given as goal

abbrev pub invariant-loop-i : goal.invariant-loop-i
invariant-loop-i l = record {
  up : (j : ℕ) → j < l.i → GoesUp (set_at (texts_at l.texts) l.part l.k) j;
  utf8 : (j : ℕ) → j < l.i → IsUtf8 (slice_index_or (set_at (texts_at l.texts) l.part l.k) j []);
  left : l.left + bytes_in (take l.i (set_at (texts_at l.texts) l.part l.k)) ≡ 65535;
}
