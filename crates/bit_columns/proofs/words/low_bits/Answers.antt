use Rattle.std.proofs.Common.{◌≡◌, ◌%◌, ◌*◌, ◌^◌, ◌-◌, bit_and, ap, ◌∙◌, arith}
use Rattle.std.proofs.lemmas.Nat.{one_shl, and_mask, mod_below, pow_pos}
use Rattle.bit_columns.proofs.words.low_bits.Goals as goal

pub returns-then-width-lt64-clause-value : goal.returns-then-width-lt64-clause-value
returns-then-width-lt64-clause-value c =
    ap (λ n. bit_and c.args.number (n - 1)) (one_shl c.args.width 64 (omega arith)) ∙ and_mask c.args.number c.args.width

pub returns-then-width-lt64-clause-below : goal.returns-then-width-lt64-clause-below
returns-then-width-lt64-clause-below c =
    let number = c.args.number in
    let width = c.args.width in
    let value : bit_and number (1 * 2 ^ width % 2 ^ 64 - 1) ≡ number % 2 ^ width =
    ap (λ n. bit_and number (n - 1)) (one_shl width 64 (omega arith)) ∙ and_mask number width in
    omega (arith, value, mod_below number (2 ^ width) (pow_pos width))
