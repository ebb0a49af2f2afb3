use Rattle.std.proofs.Common.{◌^◌, ◌-◌, map, IsTrue}
use Rattle.berth_face.specs.Berth.{Passes, Stays}
use Rattle.table_state.specs.Tables.{Table, bare, columns_most}
use Rattle.log_recovery.specs.Applying.{Reached}
use Rattle.log_recovery.proofs.recovery.read_on.Given as goal

abbrev pub invariant-loop-log : goal.invariant-loop-log
invariant-loop-log g l =
    let old = g.B.Berth.meaning l.initial.berth in
    let now = g.B.Berth.meaning l.berth in
    record {
      reached : Reached l.names old.tells old.held.disk l.scan (map bare l.tables.items) (map (λ (t : Table). columns_most t.store) l.tables.items);
      passes : Passes old now;
      stays : IsTrue old.tells → Stays old now;
    }

abbrev pub decreases-loop-log : goal.decreases-loop-log
decreases-loop-log g l = 2 ^ 63 - l.scan.at
