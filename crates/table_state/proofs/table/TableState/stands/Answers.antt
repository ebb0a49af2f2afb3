use Rattle.std.proofs.Common.{subst}
use Rattle.table_state.specs.Tables.{IsStored}
use Rattle.table_state.proofs.Stood.{stored}
use Rattle.table_state.proofs.table.TableState.stands.Goals as goal

pub returns : goal.returns
returns c =
    let t = c.self.inside in
    subst IsStored c.self.view_is (stored t.blocks t.skip t.tail t.horizon t.live c.self.invariant.0 t.writes t.pending)
