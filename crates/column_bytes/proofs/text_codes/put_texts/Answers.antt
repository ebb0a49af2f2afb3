use Rattle.std.proofs.Common.{◌≡◌, ◌+◌, ◌++◌, [], take, slice_index_or, sym, ap, ap₂, ◌∙◌, append_assoc, arith}
use Rattle.dictionaries.specs.Dictionary.{lent}
use Rattle.column_bytes.specs.Coding.{joined}
use Rattle.column_bytes.proofs.Distinct.{lent_at, lent_take, length-lent}
use Rattle.column_bytes.proofs.JoinedTexts.{joined_more}
use Rattle.column_bytes.proofs.text_codes.put_texts.Goals as goal

pub loop-text-preserved : goal.loop-text-preserved
loop-text-preserved c =
    let texts = c.args.texts.now in let i = c.loop-text.text-index in
    let within = c.loop-text-test.true in
    let before = c.args.out.now.items in
    let text : c.as_bytes.result.now ≡ slice_index_or (lent texts) i [] = c.as_bytes.ensures.value ∙ sym (lent_at texts i _ within) in
    c.in_ok-extend_from_slice.ensures.items
    ∙ ap₂ (λ xs ys. xs ++ ys) c.loop-text.invariant text
    ∙ append_assoc before (joined (lent (take i texts))) (slice_index_or (lent texts) i [])
    ∙ ap (λ xs. before ++ (joined xs ++ slice_index_or (lent texts) i [])) (lent_take texts i)
    ∙ ap (λ xs. before ++ xs) (sym (joined_more (lent texts) i (omega (arith, length-lent texts))))
    ∙ ap (λ xs. before ++ joined xs) (sym (lent_take texts (i + 1)))
