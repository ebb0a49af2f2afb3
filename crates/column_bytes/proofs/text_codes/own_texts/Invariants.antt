use Rattle.std.proofs.Common.{◌≡◌, take}
use Rattle.dictionaries.specs.Dictionary.{lent}
use Rattle.column_bytes.proofs.text_codes.own_texts.Given as goal

abbrev pub invariant-loop-text : goal.invariant-loop-text
invariant-loop-text l = l.own.items ≡ lent (take l.text-index l.texts)
