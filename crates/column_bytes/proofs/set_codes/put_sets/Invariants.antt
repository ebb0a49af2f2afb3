use Rattle.std.proofs.Common.{◌≡◌, ◌++◌, take}
use Rattle.column_bytes.specs.Coding.{joined}
use Rattle.dictionaries.specs.Sets.{number_bytes, numbers_in}
use Rattle.column_bytes.proofs.set_codes.put_sets.Given as goal

abbrev pub invariant-loop-numbers : goal.invariant-loop-numbers
invariant-loop-numbers l = l.out.items ≡ l.initial.out.items ++ number_bytes (joined (take l.numbers-index (numbers_in l.sets)))
