use Rattle.std.proofs.Common.{◌≡◌, ◌++◌, take}
use Rattle.dictionaries.specs.Dictionary.{lent}
use Rattle.column_bytes.specs.Coding.{joined}
use Rattle.column_bytes.proofs.text_codes.put_texts.Given as goal

abbrev pub invariant-loop-text : goal.invariant-loop-text
invariant-loop-text l = l.out.items ≡ l.initial.out.items ++ joined (lent (take l.text-index l.texts))
