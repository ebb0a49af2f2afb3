use Rattle.std.proofs.Common.{◌≡◌, ℕ, ◌+◌, ◌*◌, ◌<◌, length}
use Rattle.dictionaries.specs.Fields.{u32_at}
use Rattle.column_bytes.specs.Coding.{end_at}
use Rattle.dictionaries.specs.Sets.{numbers_in}
use Rattle.column_bytes.proofs.set_codes.set_ends.Given as goal

abbrev pub invariant-loop-numbers : goal.invariant-loop-numbers
invariant-loop-numbers l = record {
  len : length l.bytes.items ≡ 4 + 4 * l.numbers-index;
  count : u32_at l.bytes.items 0 ≡ length l.sets;
  end_is : l.end ≡ end_at (numbers_in l.sets) l.numbers-index;
  small : l.end < 4294967296;
  ends : (k : ℕ) → k < l.numbers-index → u32_at l.bytes.items (4 + 4 * k) ≡ end_at (numbers_in l.sets) (k + 1);
}
