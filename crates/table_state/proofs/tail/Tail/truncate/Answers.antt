use Rattle.std.proofs.Common.{List, sym, subst}
use Rattle.row_model.specs.declared.rows.Row.{Row}
use Rattle.table_state.specs.Stored.{AreNoted}
use Rattle.table_state.proofs.Ascending.{noted_take}
use Rattle.table_state.proofs.tail.Tail.truncate.Goals as goal

pub invariant_of-self : goal.invariant_of-self
invariant_of-self c =
    let t = c.self.inside in
    subst (λ (rows : List Row). AreNoted t.least t.last rows) (sym c.truncate.ensures) (noted_take c.args.count t.least t.last t.rows c.self.invariant)
