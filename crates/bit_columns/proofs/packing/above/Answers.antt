use Rattle.std.proofs.Common.{◌*◌, ◌%◌, ◌^◌, bit_or, ap, ap₂, ◌∙◌, arith}
use Rattle.std.proofs.lemmas.Nat.{or_shifted, shl_whole}
use Rattle.bit_columns.proofs.packing.above.Goals as goal

pub returns : goal.returns
returns c =
    let value = c.args.value in
    let count = c.args.count in
    ap₂ (λ v w. bit_or (v * 2 ^ count % 2 ^ 128) w) c.from.ensures c.from-2.ensures
    ∙ ap (λ n. bit_or n c.args.waiting) (shl_whole value 64 count 128 (omega arith) (omega arith))
    ∙ or_shifted value count c.args.waiting c.requires.below
