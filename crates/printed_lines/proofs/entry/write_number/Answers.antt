use Rattle.std.proofs.Common.{◌≤◌, length, rules, arith}
use Rattle.std.specs.Prelude.{decimal}
use Rattle.std.proofs.lemmas.Fmt.{length-decimal-le}
use Rattle.printed_lines.proofs.entry.write_number.Goals as goal

pub write_digits-requires : goal.write_digits-requires
write_digits-requires c = search (rules, length-decimal-le 20)

pub returns-clause-within : goal.returns-clause-within
returns-clause-within c =
    let short : length (decimal c.args.number) ≤ 20 = length-decimal-le 20 c.args.number (omega arith) (omega (arith, c.ranges.number)) (omega (arith, c.ranges.number)) in
    (omega (arith, c.write_digits.ensures.start), omega (arith, c.write_digits.ensures.start, short))
