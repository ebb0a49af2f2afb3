use Rattle.std.proofs.Common.{◌≡◌, ◌-◌, ◌/◌, ◌%◌, ◌^◌, slice_index, length, arith, ◌∙◌, rules, tests}
use Rattle.bit_columns.specs.Number.{AreBytes}
use Rattle.bit_columns.proofs.Spare.{IsBits-from_last, last_from_IsBits}
use Rattle.bit_columns.proofs.words.is_bits.Goals as goal

pub returns-else-bits-eq0 : goal.returns-else-bits-eq0
returns-else-bits-eq0 c =
    let bytes = c.args.bytes.now in
    let bits = c.args.bits in
    let are : AreBytes bytes = λ i. omega (arith, c.type_inv.bytes i) in (
      λ none. IsBits-from_last bytes bits (c.if-bytes-div_ceil.true ∙ c.div_ceil.ensures) (omega arith) (search (rules, tests)),
      λ is. let none : slice_index bytes (length bytes - 1) / 2 ^ (bits % 8) ≡ 0 = last_from_IsBits bytes bits are is (omega arith) in search (rules, tests),
    )
