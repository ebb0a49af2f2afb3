use Rattle.leaf_opening.proofs.OneAnswer.{one_answer}
use Rattle.leaf_opening.proofs.laws.answers_are_one.Goals as goal

pub returns : goal.returns
returns c = one_answer
