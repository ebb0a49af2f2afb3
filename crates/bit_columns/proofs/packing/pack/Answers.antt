use Rattle.std.proofs.Common.{◌≡◌, ◌+◌, ◌*◌, ◌^◌, length, slice_index, sym, ap, ap₂, ◌∙◌, arith}
use Rattle.std.specs.Int.{div_ceil}
use Rattle.std.proofs.lemmas.List.{take_all}
use Rattle.bit_columns.proofs.Joined.{joined, joined-more, AreNarrow, AreNarrow-all, IsBits-joined, codes-joined}
use Rattle.bit_columns.proofs.packing.pack.Goals as goal

pub loop-value-preserved : goal.loop-value-preserved
loop-value-preserved c =
    let values = c.args.values.now in
    let width = c.args.width in
    let i = c.loop-value.value-index in
    let value = slice_index values i in
    record {
      value = c.in_ok-push.ensures.value
          ∙ ap₂ (λ n bits. n + value * 2 ^ bits) c.loop-value.invariant.value c.loop-value.invariant.bits
          ∙ sym (joined-more width values i c.loop-value-test.true);
      bits = let e : (i + 1) * width ≡ i * width + width = omega arith in c.in_ok-push.ensures.bits ∙ omega (arith, e, c.loop-value.invariant.bits);
    }

pub returns-clause-whole : goal.returns-clause-whole
returns-clause-whole c =
    let values = c.args.values.now in
    let width = c.args.width in
    let made = c.in_ok-bytes.ensures in
    let narrow : AreNarrow width values = AreNarrow-all width values c.requires.fit in
    let all = ap (joined width) (take_all c.loop-value.value-index values (omega arith)) in
    let count : c.loop-value.value-index ≡ length values = omega arith in
    let bits = c.loop-value.invariant.bits ∙ ap (λ n. n * width) count in
    IsBits-joined c.in_ok-bytes.bytes.items width values made.bytes narrow
    (made.whole ∙ ap (λ n. div_ceil n 8) bits) (made.value ∙ c.loop-value.invariant.value ∙ all)

pub returns-clause-codes : goal.returns-clause-codes
returns-clause-codes c =
    let values = c.args.values.now in
    let width = c.args.width in
    let all = ap (joined width) (take_all c.loop-value.value-index values (omega arith)) in
    codes-joined c.in_ok-bytes.bytes.items width values c.in_ok-bytes.ensures.bytes (AreNarrow-all width values c.requires.fit)
    (c.in_ok-bytes.ensures.value ∙ c.loop-value.invariant.value ∙ all)
