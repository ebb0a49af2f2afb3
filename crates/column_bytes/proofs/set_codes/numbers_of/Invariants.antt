use Rattle.std.proofs.Common.{◌≡◌, ◌+◌, ◌≤◌, ◌++◌, length}
use Rattle.leaf_model.specs.Lent.{lent_texts}
use Rattle.row_model.specs.Values.{bytes_in}
use Rattle.dictionaries.specs.Dictionary.{AreKept, AreTexts, texts_by}
use Rattle.dictionaries.specs.Sets.{AreNumbers}
use Rattle.column_bytes.proofs.set_codes.numbers_of.Given as goal

abbrev pub invariant-loop-text : goal.invariant-loop-text
invariant-loop-text l = record {
  texts : AreTexts l.initial.texts → AreTexts l.texts;
  kept : AreKept l.initial.texts l.texts;
  grows : length l.texts + length (lent_texts l.left) ≤ length l.initial.texts + length (lent_texts l.members);
  bytes : bytes_in l.texts + bytes_in (lent_texts l.left) ≤ bytes_in l.initial.texts + bytes_in (lent_texts l.members);
  numbers : AreNumbers (length l.texts) l.numbers.items;
  parted : texts_by l.texts l.numbers.items ++ lent_texts l.left ≡ lent_texts l.members;
}

abbrev pub decreases-loop-text : goal.decreases-loop-text
decreases-loop-text l = length (lent_texts l.left)
