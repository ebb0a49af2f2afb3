use Rattle.leaf_table.proofs.Knowing.{same_seat, open_after_open}
use Rattle.leaf_table.proofs.shared.SharedTable.reopen.Goals as goal

pub returns-clause-same : goal.returns-clause-same
returns-clause-same g c = same_seat _ _ _ _ _ _ c.steward_turn.ensures.made.0

pub returns-clause-open : goal.returns-clause-open
returns-clause-open g c = open_after_open _ _ _ _ _ _ _ c.steward_turn.ensures.made.0
