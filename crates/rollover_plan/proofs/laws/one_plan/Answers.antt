use Rattle.rollover_plan.specs.Plan.{share, by_place}
use Rattle.rollover_plan.proofs.Cuts.{one_cut}
use Rattle.rollover_plan.proofs.laws.one_plan.Goals as goal

pub returns : goal.returns
returns c = λ m p percent waves others one other. one_cut (share m p percent) (by_place m p) waves others one other
