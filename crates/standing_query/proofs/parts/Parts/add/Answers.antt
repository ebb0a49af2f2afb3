use Rattle.std.proofs.Common.{◌∙◌}
use Rattle.std.proofs.lemmas.Result.{IfOk-weaker}
use Rattle.standing_query.proofs.Going.{cut_as}
use Rattle.standing_query.proofs.parts.Parts.add.Goals as goal

pub returns-clause-rows : goal.returns-clause-rows
returns-clause-rows c = λ before held.
    let cut = cut_as c.in_ok-own.own.items c.args.rows c.in_ok-kept.kept.items c.as_slice.result.now c.args.late (c.in_ok-own.ensures ∙ c.lend.ensures) c.as_slice.ensures.value c.in_ok-kept.ensures in
    IfOk-weaker c.put.result _ _ (λ _ now. (c.as_slice.result.now, cut, now)) (c.put.ensures.rows before held)
