use Rattle.std.proofs.Common.{◌≡◌, ℕ, ◌+◌, ◌*◌, ◌<◌, length}
use Rattle.dictionaries.specs.Fields.{u32_at}
use Rattle.dictionaries.specs.Dictionary.{lent}
use Rattle.column_bytes.specs.Coding.{end_at}
use Rattle.column_bytes.proofs.text_codes.ends_of.Given as goal

abbrev pub invariant-loop-text : goal.invariant-loop-text
invariant-loop-text l = record {
  len : length l.bytes.items ≡ 4 + 4 * l.text-index;
  count : u32_at l.bytes.items 0 ≡ length l.texts;
  end_is : l.end ≡ end_at (lent l.texts) l.text-index;
  small : l.end < 4294967296;
  ends : (k : ℕ) → k < l.text-index → u32_at l.bytes.items (4 + 4 * k) ≡ end_at (lent l.texts) (k + 1);
}
