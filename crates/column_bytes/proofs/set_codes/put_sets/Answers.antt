use Rattle.std.proofs.Common.{ℕ, Vec, Global, ◌≡◌, ◌++◌, [], take, slice_index_or, sym, ap, ap₂, ◌∙◌, append_assoc, arith}
use Rattle.column_bytes.specs.Coding.{joined}
use Rattle.dictionaries.specs.Sets.{number_bytes, numbers_in}
use Rattle.column_bytes.proofs.JoinedTexts.{joined_more}
use Rattle.column_bytes.proofs.SetBytes.{numbers_both}
use Rattle.column_bytes.proofs.SetCoding.{numbers_at, length-numbers_in}
use Rattle.column_bytes.proofs.set_codes.put_sets.Goals as goal

pub loop-numbers-preserved : goal.loop-numbers-preserved
loop-numbers-preserved c =
    let sets = numbers_in c.args.sets.now in let i = c.loop-numbers.numbers-index in
    let within = c.loop-numbers-test.true in
    let before = c.args.out.now.items in
    let one = slice_index_or sets i [] in
    let here : c.as_slice.result.now ≡ one = c.as_slice.ensures.value ∙ ap (λ (v : Vec ℕ Global). v.items) c.numbers-item.is ∙ sym (numbers_at c.args.sets.now i c.numbers-item.result within) in
    c.in_ok-put_numbers.ensures
    ∙ ap₂ (λ xs ys. xs ++ number_bytes ys) c.loop-numbers.invariant here
    ∙ append_assoc before (number_bytes (joined (take i sets))) (number_bytes one)
    ∙ ap (λ b. before ++ b) (sym (numbers_both (joined (take i sets)) one) ∙ ap number_bytes (sym (joined_more sets i (omega (arith, within, length-numbers_in c.args.sets.now)))))
