use Rattle.std.proofs.Common.{◌≡◌, [], sym, ◌∙◌, ap, map, ◌++◌, drop, arith}
use Rattle.std.specs.Prelude.{string_bytes, zip}
use Rattle.std.proofs.lemmas.List.{append-nil}
use Rattle.answer_text.specs.Answer.{agg_text}
use Rattle.answer_text.proofs.Parts.{zip_ended}
use Rattle.answer_text.proofs.print.group_parts.Goals as goal

pub returns : goal.returns
returns c =
    let aggs = c.as_slice-aggs.result.now in
    let folds = c.as_slice-folds.result.now in
    let parts = map string_bytes c.loop-i.parts.items in
    let ended : zip (drop c.loop-i.i aggs) (drop c.loop-i.i folds) ≡ [] = zip_ended c.loop-i.i aggs folds (omega (arith, c.loop-i-test.false, c.min-i-end.ensures)) in
    sym (append-nil parts) ∙ ap (λ ps. parts ++ map (λ p. agg_text c.args.group.now.count p.0 p.1) ps) (sym ended) ∙ c.loop-i.invariant
