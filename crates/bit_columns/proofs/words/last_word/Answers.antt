use Rattle.std.proofs.Common.{◌≡◌, ◌+◌, ◌-◌, ◌*◌, ◌%◌, ◌^◌, drop, bit_or, sym, ap, ap₂, ◌∙◌, arith}
use Rattle.std.proofs.lemmas.List.{take_all, length-drop}
use Rattle.bit_columns.specs.Number.{number, AreBytes}
use Rattle.bit_columns.proofs.Reading.{or_byte}
use Rattle.bit_columns.proofs.words.last_word.Goals as goal

pub loop-end-preserved : goal.loop-end-preserved
loop-end-preserved c =
    let bytes = c.args.bytes.now in
    let place = c.loop-end.end - 1 in
    let are : AreBytes bytes = λ i. omega (arith, c.type_inv.bytes i) in
    let next : c.loop-end.end ≡ place + 1 = omega arith in
    let word : c.loop-end.word ≡ number (drop (place + 1) bytes) = c.loop-end.invariant.read ∙ ap (λ k. number (drop k bytes)) next in
    record {
      read = ap₂ (λ w b. bit_or (w * 2 ^ 8 % 2 ^ 64) b) word c.from.ensures ∙ or_byte bytes place are (omega arith) (omega arith);
      from = omega arith;
      to = omega arith;
    }

pub returns : goal.returns
returns c =
    let bytes = c.args.bytes.now in
    let done : c.loop-end.end ≡ c.args.at = omega arith in
    let all = take_all 8 (drop c.args.at bytes) (omega (arith, length-drop c.args.at bytes)) in
    c.loop-end.invariant.read ∙ ap (λ k. number (drop k bytes)) done ∙ ap number (sym all)
