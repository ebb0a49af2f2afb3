use Rattle.std.proofs.Common.{ℤ, List, to_z, of_z, subst}
use Rattle.std.specs.Prelude.{IfSome}
use Rattle.std.specs.Int.{w64}
use Rattle.std.proofs.lemmas.Int.{to_z-of_z}
use Rattle.row_model.specs.declared.rows.Row.{Row}
use Rattle.leaf_model.specs.Content.{rows_from}
use Rattle.table_state.specs.Stored.{AreAscending}
use Rattle.table_state.proofs.Ascending.{noted_found}
use Rattle.table_state.proofs.order.last_known.Goals as goal

pub returns-in-None : goal.returns-in-None
returns-in-None c =
    let up = subst (λ (z : ℤ). IfSome c.ascend_from.result (λ to. AreAscending z (rows_from z c.args.rows.now) to)) (to_z-of_z w64 c.args.least c.ranges.least)
    (subst (λ (rows : List Row). IfSome c.ascend_from.result (λ to. AreAscending (to_z w64 (of_z w64 c.args.least)) (rows_from (to_z w64 (of_z w64 c.args.least)) rows) to)) c.lend.ensures c.ascend_from.ensures) in
    noted_found c.args.least c.ascend_from.result c.args.rows.now c.requires.from up
