use Rattle.std.proofs.Common.{◌≡◌, ◌++◌, take}
use Rattle.dictionaries.specs.Sets.{number_bytes}
use Rattle.column_bytes.proofs.set_codes.put_numbers.Given as goal

abbrev pub invariant-loop-number : goal.invariant-loop-number
invariant-loop-number l = l.out.items ≡ l.initial.out.items ++ number_bytes (take l.number-index l.numbers)
