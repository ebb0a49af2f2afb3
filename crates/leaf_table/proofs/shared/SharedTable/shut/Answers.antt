use Rattle.leaf_table.proofs.Knowing.{closed_by, same_seat, shut_after_shut}
use Rattle.leaf_table.proofs.shared.SharedTable.shut.Goals as goal

pub returns-clause-closed : goal.returns-clause-closed
returns-clause-closed g c = let b = c.args.self.now.site.base in closed_by b.name.value b.base (g.B.Berth.meaning c.args.berth.now).clock c.args.steward.now (record { number = c.seen.result; writes = c.writes.result; table = c.in-Closed.table }) c.steward_turn.new.steward c.in-Closed.ensures.made c.seen.ensures.number c.writes.ensures

pub returns-clause-same : goal.returns-clause-same
returns-clause-same g c = same_seat _ _ _ _ _ _ c.in-Closed.ensures.made.0

pub returns-clause-shut : goal.returns-clause-shut
returns-clause-shut g c = shut_after_shut _ _ _ _ _ c.in-Closed.ensures.made.0
