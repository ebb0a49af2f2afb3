use Rattle.leaf_table.proofs.Knowing.{same_seat, live_after_flushed}
use Rattle.leaf_table.proofs.shared.SharedTable.flushed.Goals as goal

pub returns-clause-same : goal.returns-clause-same
returns-clause-same g c = same_seat _ _ _ _ _ _ c.steward_turn.ensures.made.0

pub returns-clause-live : goal.returns-clause-live
returns-clause-live g c = live_after_flushed _ _ _ _ _ _ c.steward_turn.ensures.made.0 c.requires.steward c.requires.seat.has_id
