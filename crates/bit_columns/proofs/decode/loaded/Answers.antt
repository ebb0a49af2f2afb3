use Rattle.std.proofs.Common.{◌*◌, ◌/◌, ◌%◌, ◌^◌, ap, ◌∙◌, arith}
use Rattle.bit_columns.specs.Number.{AreBytes}
use Rattle.bit_columns.proofs.Bits.{bits_from-window}
use Rattle.bit_columns.proofs.decode.loaded.Goals as goal

pub returns : goal.returns
returns c =
    let bytes = c.args.bytes.now in
    let width = c.args.width in
    let from = c.args.i * width in
    let are : AreBytes bytes = λ k. omega (arith, c.type_inv.bytes k) in
    c.low_bits.ensures.value ∙ ap (λ n. n / 2 ^ (from % 8) % 2 ^ width) c.word_at.ensures
    ∙ bits_from-window bytes (from / 8) (from % 8) from width 8 are (omega arith) c.requires.at_once
