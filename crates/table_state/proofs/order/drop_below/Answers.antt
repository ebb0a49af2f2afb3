use Rattle.std.proofs.Common.{List, sym, subst}
use Rattle.row_model.specs.declared.rows.Row.{Row}
use Rattle.table_state.specs.Stored.{AreNoted}
use Rattle.table_state.proofs.Ascending.{noted_drop}
use Rattle.table_state.proofs.order.drop_below.Goals as goal

pub returns-clause-noted : goal.returns-clause-noted
returns-clause-noted c = λ from last noted.
    subst (λ (rows : List Row). AreNoted from last rows) (sym c.drop_first.ensures) (noted_drop c.count_below-below.result from last c.args.rows.now noted)
