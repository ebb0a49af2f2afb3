use Rattle.leaf_table.proofs.Knowing.{same_seat}
use Rattle.leaf_table.proofs.shared.SharedTable.ask_lent.Goals as goal

pub returns-clause-same : goal.returns-clause-same
returns-clause-same g c = same_seat _ _ _ _ _ _ c.turn-answer.ensures.made.0
