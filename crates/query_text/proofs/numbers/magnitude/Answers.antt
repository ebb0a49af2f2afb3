use Rattle.std.proofs.Common.{◌≡◌, ◌+◌, ◌*◌, ◌-◌, ◌≤◌, ◌^◌, get_or, drop, arith}
use Rattle.query_text.specs.Tokens.{value_from}
use Rattle.query_text.proofs.Lexing.{value_grows, rest_is, none_past}
use Rattle.query_text.proofs.numbers.magnitude.Goals as goal

pub returns-in-None : goal.returns-in-None
returns-in-None c =
    let ds = c.args.digits.now in
    let i = c.loop-b.b-index in
    let next = c.loop-b.value * 10 + (get_or ds i 0 - 48) in
    let same : value_from c.args.start ds ≡ value_from next (drop (i + 1) ds) = rw (rest_is ds i (omega arith)) at c.loop-b.invariant.same in
    let grows : next ≤ value_from c.args.start ds = rw same (value_grows next (drop (i + 1) ds)) in
    none_past next (value_from c.args.start ds) (2 ^ 63) c.in-None.ensures grows
