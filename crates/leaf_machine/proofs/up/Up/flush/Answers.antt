use Rattle.std.proofs.Common.{subst}
use Rattle.std.specs.Prelude.{IsTrue}
use Rattle.leaf_steward.specs.Seated.{AreFounded}
use Rattle.leaf_machine.specs.States.{Serving, ServingGoesOn}
use Rattle.leaf_machine.specs.Flushes.{Flushes}
use Rattle.leaf_machine.proofs.up.Up.flush.Goals as goal

pub returns-clause-flushes : goal.returns-clause-flushes
returns-clause-flushes g c =
    let now : Serving = record { seated = c.flush_table.new.seats; owing = c.flush_table.new.log } in
    subst (λ s. Flushes c.args.table s.0 now c.flush_table.new.notes c.flush_table.result) c.self.view_is c.flush_table.ensures.flushes

pub returns-clause-crash : goal.returns-clause-crash
returns-clause-crash g c =
    let now : Serving = record { seated = c.flush_table.new.seats; owing = c.flush_table.new.log } in
    subst (λ s. IsTrue (g.B.Berth.meaning s.1).tells → AreFounded s.0.seated → ServingGoesOn s.0 now (g.B.Berth.meaning s.1) (g.B.Berth.meaning c.flush_table.new.berth)) c.self.view_is c.flush_table.ensures.crash
