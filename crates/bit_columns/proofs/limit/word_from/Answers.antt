use Rattle.std.proofs.Common.{◌≡◌, ◌+◌, ◌*◌, ◌/◌, ◌%◌, ◌^◌, take, drop, ap, ◌∙◌, arith}
use Rattle.std.proofs.Math.Nat.{add-mul}
use Rattle.std.proofs.lemmas.Nat.{shr-shr}
use Rattle.bit_columns.specs.Number.{number, AreBytes}
use Rattle.bit_columns.proofs.Bits.{bits_from-window}
use Rattle.bit_columns.proofs.limit.word_from.Goals as goal

pub returns : goal.returns
returns c =
    let bytes = c.args.bytes.now in
    let i = c.args.i in
    let width = c.args.width in
    let skipped = i * width % 8 in
    let are : AreBytes bytes = λ k. omega (arith, c.type_inv.bytes k) in
    λ j fits.
    let place : (i + j) * width ≡ 8 * (i * width / 8) + (skipped + j * width) = omega (arith, add-mul i j width) in
    ap (λ n. n / 2 ^ skipped / 2 ^ (j * width) % 2 ^ width) c.word_at.ensures
    ∙ ap (λ n. n % 2 ^ width) (shr-shr (number (take 8 (drop (i * width / 8) bytes))) skipped (j * width))
    ∙ bits_from-window bytes (i * width / 8) (skipped + j * width) ((i + j) * width) width 8 are place (omega (arith, fits))
