use Rattle.std.proofs.Common.{ap, ◌∙◌}
use Rattle.std.proofs.lemmas.Result.{IfOk-weaker}
use Rattle.standing_query.specs.Parts.{all_joined}
use Rattle.standing_query.specs.Spread.{back}
use Rattle.standing_query.proofs.Feeding.{few_stood, tells}
use Rattle.standing_query.proofs.standing.Standing.groups.Goals as goal

pub tell-requires-clause-few : goal.tell-requires-clause-few
tell-requires-clause-few c =
    rw c.as_slice-2.ensures.value (few_stood c.args.self.now c.self.inside.query c.self.inside.spread c.self.inside.upto c.self.inside.stale c.self.inside.parts.rows
    c.self.inside.parts.list.items _ c.self.invariant c.self.view_is _)

pub returns-clause-groups : goal.returns-clause-groups
returns-clause-groups c = λ rows means times.
    IfOk-weaker c.tell.result _ _
    (λ gs is.
    is ∙ ap (λ parts. back c.self.inside.query (all_joined parts)) c.as_slice-2.ensures.value
    ∙ tells c.args.self.now c.self.inside.query c.self.inside.spread c.self.inside.upto c.self.inside.stale c.self.inside.parts.rows c.self.inside.parts.list.items _
    c.self.invariant c.self.view_is rows means times)
    c.tell.ensures.value
