use Rattle.std.proofs.Common.{◌≡◌, ◌++◌, List, ap, length, length-append, arith, rules}
use Rattle.row_model.specs.declared.rows.Row.{Row}
use Rattle.leaf_model.specs.Content.{rows_from}
use Rattle.leaf_model.specs.Lent.{lent_rows}
use Rattle.table_state.proofs.Late.{few_from}
use Rattle.table_state.proofs.sealing.prepare.Goals as goal

pub returns-clause-few : goal.returns-clause-few
returns-clause-few c =
    let more = lent_rows c.args.more.now in
    let late = rows_from c.args.horizon more in
    let put : c.extend_from.new.self ≡ c.args.tail.now ++ late = search rules in
    omega (arith, few_from c.args.horizon more, c.len.ensures, c.len-before.ensures, ap (λ (rows : List Row). length rows) put, length-append c.args.tail.now late)
