use Rattle.std.proofs.Common.{◌≡◌, ◌+◌, ◌*◌, ap, arith}
use Rattle.std.proofs.Math.Nat.{add-mul}
use Rattle.std.proofs.lemmas.Grind.{div_ceil_times}
use Rattle.bit_columns.proofs.decode.loadable.Goals as goal

pub returns-else-width-eq0-clause-inside : goal.returns-else-width-eq0-clause-inside
returns-else-width-eq0-clause-inside c = λ some.
    let front = c.saturating_sub.result in
    let last = c.div_ceil.result in
    let width = c.args.width in
    let all : front + last ≡ c.args.count = omega arith in
    let enough = div_ceil_times 64 width (omega arith) in
    let taken = ap (λ n. n * width) c.div_ceil.ensures in
    let spread = add-mul front last width in
    omega (arith, ap (λ n. n * width) all)
