use Rattle.std.proofs.Common.{List, ℕ, ◌<◌, length, sym, subst, arith}
use Rattle.column_bytes.specs.Coding.{joined}
use Rattle.dictionaries.specs.Dictionary.{AreTexts}
use Rattle.column_bytes.proofs.JoinedTexts.{joined_small}
use Rattle.column_bytes.proofs.text_codes.text_column.Goals as goal

pub dictionary_bytes-requires-clause-texts : goal.dictionary_bytes-requires-clause-texts
dictionary_bytes-requires-clause-texts c = subst AreTexts (sym c.as_slice.ensures) c.requires.texts

pub dictionary_bytes-requires-clause-small : goal.dictionary_bytes-requires-clause-small
dictionary_bytes-requires-clause-small c =
    subst (λ (texts : List (List ℕ)). length (joined texts) < 4294967296) (sym c.as_slice.ensures)
    (joined_small c.args.set.now c.requires.texts (omega (arith, c.requires.each, c.requires.few)))
