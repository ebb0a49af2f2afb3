use Rattle.std.proofs.Common.{◌≡◌, ◌+◌, ◌-◌, ◌*◌, ◌%◌, ◌^◌, ◌<◌, ◌≤◌, length, ◌++◌, sym, subst, ap, ap₂, ◌∙◌, arith}
use Rattle.std.proofs.Math.Nat.{pow-le-pow_right}
use Rattle.std.proofs.lemmas.Nat.{shr_below}
use Rattle.std.specs.Int.{w64, to_le_bytes}
use Rattle.bit_columns.specs.Number.{number, WrittenBits, AreBytes}
use Rattle.bit_columns.proofs.Numbers.{AreBytes-append, AreBytes-to_le_bytes}
use Rattle.bit_columns.proofs.Writing.{above_lt, written_waiting, written_word}
use Rattle.bit_columns.proofs.packing.BitWriter.push.Goals as goal

pub invariant_of-self : goal.invariant_of-self
invariant_of-self c =
    let below = above_lt c.self.inside.waiting c.args.value c.self.inside.count c.args.width c.self.invariant.below c.requires.fits in
    record {
      each = c.self.invariant.each;
      few = omega arith;
      below = omega (arith, below, c.above-all.ensures, c.low_word-self-inside.ensures);
    }

pub invariant_of-self-else-count-lt64 : goal.invariant_of-self-else-count-lt64
invariant_of-self-else-count-lt64 c =
    let count = c.self.inside.count in
    let width = c.args.width in
    let below = above_lt c.self.inside.waiting c.args.value count width c.self.invariant.below c.requires.fits in
    let e : count + width ≡ count + width - 64 + 64 = omega arith in
    let all : c.above-all.result < 2 ^ (count + width - 64 + 64) = omega (arith, below, c.above-all.ensures, ap (λ n. 2 ^ n) e) in
    let items = c.in_ok-extend_from_slice.ensures.items ∙ ap (λ w. c.self.inside.bytes.items ++ w) c.to_le_bytes.ensures in
    record {
      each = subst AreBytes (sym items) (AreBytes-append c.self.inside.bytes.items (to_le_bytes w64 c.low_word.result) c.self.invariant.each (AreBytes-to_le_bytes c.low_word.result));
      few = omega arith;
      below = omega (arith, shr_below c.above-all.result (count + width - 64) 64 all, c.high_word-self-inside.ensures);
    }

pub returns-then-count-lt64-clause-value : goal.returns-then-count-lt64-clause-value
returns-then-count-lt64-clause-value c =
    let inside = c.self.inside in
    let value = c.args.value in
    let size = 8 * length inside.bytes.items in
    let below = above_lt inside.waiting value inside.count c.args.width c.self.invariant.below c.requires.fits in
    let fits : 2 ^ (inside.count + c.args.width) ≤ 2 ^ 64 = pow-le-pow_right {n = 2} (omega arith) {i = inside.count + c.args.width} {j = 64} (omega arith) in
    let whole : c.low_word-self-inside.result ≡ value * 2 ^ inside.count + inside.waiting = omega (arith, c.low_word-self-inside.ensures, c.above-all.ensures) in
    ap (λ n. number inside.bytes.items + n * 2 ^ size) whole
    ∙ written_waiting (number inside.bytes.items) inside.waiting value inside.count size
    ∙ ap (λ (w : WrittenBits). w.value + value * 2 ^ w.bits) c.self.view_is

pub returns-in_ok-extend_from_slice-clause-value : goal.returns-in_ok-extend_from_slice-clause-value
returns-in_ok-extend_from_slice-clause-value c =
    let inside = c.self.inside in
    let value = c.args.value in
    let all = c.above-all.result in
    let size = 8 * length inside.bytes.items in
    let bytes : c.extend_from_slice.new.self.items ≡ inside.bytes.items ++ to_le_bytes w64 (all % 2 ^ 64) =
    c.in_ok-extend_from_slice.ensures.items ∙ ap (λ w. inside.bytes.items ++ w) (c.to_le_bytes.ensures ∙ ap (to_le_bytes w64) c.low_word.ensures) in
    ap₂ (λ items n. number items + n * 2 ^ (8 * length items)) bytes c.high_word-self-inside.ensures
    ∙ written_word inside.bytes.items all
    ∙ ap (λ n. number inside.bytes.items + n * 2 ^ size) c.above-all.ensures
    ∙ written_waiting (number inside.bytes.items) inside.waiting value inside.count size
    ∙ ap (λ (w : WrittenBits). w.value + value * 2 ^ w.bits) c.self.view_is
