use Rattle.std.proofs.Common.{◌≡◌, ◌*◌, ◌%◌, ◌^◌, arith}
use Rattle.std.proofs.lemmas.Nat.{one_shl, pow_pos}
use Rattle.column_bytes.proofs.view.greatest_code.Goals as goal

pub returns-then-width-lt64 : goal.returns-then-width-lt64
returns-then-width-lt64 c =
    let width = c.args.width in
    let shifted : 1 * 2 ^ width % 2 ^ 64 ≡ 2 ^ width = one_shl width 64 (omega arith) in
    omega (arith, shifted, pow_pos width)
