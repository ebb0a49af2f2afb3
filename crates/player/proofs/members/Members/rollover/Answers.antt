use Rattle.std.proofs.Common.{inl}
use Rattle.player.proofs.RollPlays.{rollover_plays}
use Rattle.player.proofs.WaveLines.{plan_some}
use Rattle.player.proofs.members.Members.rollover.Goals as goal

pub returns-clause-plays : goal.returns-clause-plays
returns-clause-plays g c =
    let x = c.args.self.now in
    let is_plan = c.in_ok-plan.ensures.plan in
    let rolled = c.roll-lines in
    inl (rollover_plays g.B.Berth.meaning x rolled.new.self c.args.percent c.in_ok-plan.plan _ _ rolled.result.0 rolled.result.1 c.ended.result is_plan
    (plan_some x.machines x.per_machine c.args.percent c.in_ok-plan.plan c.requires.members.few.some_machines is_plan) rolled.ensures _ (cc) c.ended.ensures)
