use Rattle.std.proofs.Common.{◌≡◌, ◌+◌, ◌*◌, ◌^◌, length, map, slice_index, sym, ap, ap₂, ◌∙◌, arith}
use Rattle.std.proofs.lemmas.List.{take_all, length-map}
use Rattle.std.specs.Int.{div_ceil, from_bool}
use Rattle.bit_columns.proofs.Joined.{joined, joined-more, from_bool-at, IsBits-joined_bits, presence-joined}
use Rattle.bit_columns.proofs.packing.pack_bits.Goals as goal

pub loop-bit-preserved : goal.loop-bit-preserved
loop-bit-preserved c = record {
  value =
      let bits = c.args.bits.now in
      let i = c.loop-bit.bit-index in
      let one : i * 1 ≡ i = omega arith in
      c.in_ok-push.ensures.value
      ∙ ap (λ n. c.loop-bit.writer.value + n * 2 ^ c.loop-bit.writer.bits) (c.from.ensures ∙ sym (from_bool-at bits i c.loop-bit-test.true))
      ∙ ap₂ (λ n m. n + slice_index (map from_bool bits) i * 2 ^ m) c.loop-bit.invariant.value c.loop-bit.invariant.bits
      ∙ sym (joined-more 1 (map from_bool bits) i (omega (arith, length-map bits from_bool)));
  bits = omega (arith, c.in_ok-push.ensures.bits, c.loop-bit.invariant.bits);
}

pub returns-clause-whole : goal.returns-clause-whole
returns-clause-whole c =
    let bits = c.args.bits.now in
    let made = c.in_ok-bytes.ensures in
    let count : c.loop-bit.bit-index ≡ length bits = omega arith in
    let all = ap (joined 1) (take_all c.loop-bit.bit-index (map from_bool bits) (omega (arith, length-map bits from_bool))) in
    IsBits-joined_bits c.in_ok-bytes.bytes.items bits made.bytes
    (made.whole ∙ ap (λ n. div_ceil n 8) (c.loop-bit.invariant.bits ∙ ap (λ n. n * 1) count))
    (made.value ∙ c.loop-bit.invariant.value ∙ all)

pub returns-clause-bits : goal.returns-clause-bits
returns-clause-bits c =
    let bits = c.args.bits.now in
    let all = ap (joined 1) (take_all c.loop-bit.bit-index (map from_bool bits) (omega (arith, length-map bits from_bool))) in
    presence-joined c.in_ok-bytes.bytes.items bits c.in_ok-bytes.ensures.bytes
    (c.in_ok-bytes.ensures.value ∙ c.loop-bit.invariant.value ∙ all)
