use Rattle.std.proofs.Common.{◌∙◌, ap, codes}
use Rattle.std.specs.Prelude.{string_bytes}
use Rattle.std.specs.List.{join_by}
use Rattle.answer_text.proofs.Parts.{join_map}
use Rattle.answer_text.proofs.print.line.Goals as goal

pub returns : goal.returns
returns c =
    c.of.ensures ∙ c.in_ok-join.ensures.ok ∙ ap (join_by string_bytes (codes " ")) c.as_slice.ensures.value
    ∙ join_map string_bytes (codes " ") c.in_ok-parts.parts.items
    ∙ ap (join_by (λ part. part) (codes " ")) c.in_ok-parts.ensures
