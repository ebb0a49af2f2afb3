use Rattle.rollover_plan.proofs.Planned.{planned}
use Rattle.rollover_plan.proofs.laws.plan_rolls_each_once.Goals as goal

pub returns : goal.returns
returns c = λ m p percent waves machines places plan. planned m p percent machines places waves plan
