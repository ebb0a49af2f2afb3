use Rattle.std.proofs.Common.{◌≡◌, ◌+◌, ◌-◌, ◌*◌, ◌/◌, ◌%◌, ◌^◌, slice_index, take, drop, sym, ap, ◌∙◌, arith}
use Rattle.std.proofs.Math.Pow.{mod-mod-pow}
use Rattle.bit_columns.specs.Number.{number, AreBytes}
use Rattle.bit_columns.proofs.Bits.{bits_from-window}
use Rattle.bit_columns.proofs.Reading.{number-nine}
use Rattle.bit_columns.proofs.words.bits_at.Goals as goal

pub returns-then-bytes-at-clause-value : goal.returns-then-bytes-at-clause-value
returns-then-bytes-at-clause-value c =
    let bytes = c.args.bytes.now in
    let are : AreBytes bytes = λ i. omega (arith, c.type_inv.bytes i) in
    c.low_bits.ensures.value ∙ ap (λ n. n / 2 ^ (c.args.from % 8) % 2 ^ c.args.width) c.last_word.ensures
    ∙ bits_from-window bytes (c.args.from / 8) (c.args.from % 8) c.args.from c.args.width 8 are (omega arith) (omega arith)

pub returns-then-skipped-width-le64-clause-value : goal.returns-then-skipped-width-le64-clause-value
returns-then-skipped-width-le64-clause-value c =
    let bytes = c.args.bytes.now in
    let are : AreBytes bytes = λ i. omega (arith, c.type_inv.bytes i) in
    c.low_bits-then-skipped-width-le64.ensures.value ∙ ap (λ n. n / 2 ^ (c.args.from % 8) % 2 ^ c.args.width) c.word_at.ensures
    ∙ bits_from-window bytes (c.args.from / 8) (c.args.from % 8) c.args.from c.args.width 8 are (omega arith) (omega arith)

pub returns-else-skipped-width-le64-clause-value : goal.returns-else-skipped-width-le64-clause-value
returns-else-skipped-width-le64-clause-value c =
    let bytes = c.args.bytes.now in
    let at = c.args.from / 8 in
    let skipped = c.args.from % 8 in
    let width = c.args.width in
    let are : AreBytes bytes = λ i. omega (arith, c.type_inv.bytes i) in
    let word = c.word_at-else-skipped-width-le64.ensures in
    let nine = number-nine bytes at (omega arith) in
    let crossed = c.crossing.ensures ∙ ap (λ n. (slice_index bytes (at + 8) * 2 ^ 64 + n) / 2 ^ skipped % 2 ^ 64) word
    ∙ ap (λ n. n / 2 ^ skipped % 2 ^ 64) (sym nine) in
    let e : 64 - width + width ≡ 64 = omega arith in
    let kept = ap (λ k. number (take 9 (drop at bytes)) / 2 ^ skipped % 2 ^ k % 2 ^ width) (sym e)
    ∙ mod-mod-pow (number (take 9 (drop at bytes)) / 2 ^ skipped) (64 - width) width in
    c.low_bits-else-skipped-width-le64.ensures.value ∙ ap (λ n. n % 2 ^ width) crossed ∙ kept
    ∙ bits_from-window bytes at skipped c.args.from width 9 are (omega arith) (omega arith)
