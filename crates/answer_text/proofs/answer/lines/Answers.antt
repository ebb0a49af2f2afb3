use Rattle.std.proofs.Common.{◌≡◌, ◌∙◌, ap, map, take, Bor}
use Rattle.leaf_model.specs.declared.groups.Group.{Group}
use Rattle.answer_text.specs.Answer.{group_cmp, group_line, in_order}
use Rattle.answer_text.proofs.Parts.{map_front}
use Rattle.answer_text.proofs.answer.lines.Goals as goal

pub returns : goal.returns
returns c =
    let q = c.args.query.now in
    let all = c.deref.result.now in
    let printed : c.in_ok-print_all.field-0.items ≡ map (λ (g : Bor Group). group_line q g.now) c.cut-shown.result.now = c.in_ok-print_all.ensures in
    c.of.ensures ∙ printed ∙ ap (map (λ (g : Bor Group). group_line q g.now)) c.cut-shown.ensures
    ∙ map_front (λ (g : Bor Group). g.now) (group_line q) q.limit all
    ∙ ap (λ gs. map (group_line q) (take q.limit gs)) (ap (map (λ (g : Bor Group). g.now)) c.deref.ensures.value ∙ c.in_ok-ordered.ensures ∙ ap (in_order (group_cmp q)) c.as_slice.ensures)
