use Rattle.std.proofs.Common.{◌∙◌}
use Rattle.rollover_plan.proofs.Cuts.{cut_same}
use Rattle.rollover_plan.proofs.Planned.{planned, planned_fewest, planned_count}
use Rattle.rollover_plan.proofs.plan.waves.Goals as goal

pub returns-clause-plan : goal.returns-clause-plan
returns-clause-plan c = cut_same _ _ _ _ _ _ c.in_ok-waves.ensures c.share.ensures (c.deref.ensures.value ∙ c.in_ok-leaves.ensures) c.of.ensures

pub returns-clause-each_once : goal.returns-clause-each_once
returns-clause-each_once c =
    planned c.args.machines c.args.per_machine c.args.percent c.requires.machines c.requires.per_machine c.of.result
    (cut_same _ _ _ _ _ _ c.in_ok-waves.ensures c.share.ensures (c.deref.ensures.value ∙ c.in_ok-leaves.ensures) c.of.ensures)

pub returns-clause-fewest : goal.returns-clause-fewest
returns-clause-fewest c =
    planned_fewest c.args.machines c.args.per_machine c.args.percent c.requires.machines c.requires.per_machine c.of.result
    (cut_same _ _ _ _ _ _ c.in_ok-waves.ensures c.share.ensures (c.deref.ensures.value ∙ c.in_ok-leaves.ensures) c.of.ensures)

pub returns-clause-count : goal.returns-clause-count
returns-clause-count c =
    planned_count c.args.machines c.args.per_machine c.args.percent c.requires.machines c.requires.per_machine c.of.result
    (cut_same _ _ _ _ _ _ c.in_ok-waves.ensures c.share.ensures (c.deref.ensures.value ∙ c.in_ok-leaves.ensures) c.of.ensures)
