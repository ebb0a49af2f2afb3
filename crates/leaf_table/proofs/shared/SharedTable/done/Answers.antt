use Rattle.leaf_table.proofs.Knowing.{same_seat, shut_after_done}
use Rattle.leaf_table.proofs.shared.SharedTable.done.Goals as goal

pub returns-clause-same : goal.returns-clause-same
returns-clause-same g c = same_seat _ _ _ _ _ _ c.steward_turn.ensures.made.0

pub returns-clause-shut : goal.returns-clause-shut
returns-clause-shut g c = shut_after_done _ _ _ _ _ c.steward_turn.ensures.made.0
