use Rattle.std.proofs.Common.{arith}
use Rattle.std.proofs.lemmas.Bool.{le-leb}
use Rattle.leaf_model.specs.Lent.{lent_rows}
use Rattle.table_state.proofs.Late.{few_from}
use Rattle.table_state.proofs.held.has_room.Goals as goal

pub returns-then-held-len-le-MOST_ROWS : goal.returns-then-held-len-le-MOST_ROWS
returns-then-held-len-le-MOST_ROWS c =
    let few = few_from c.args.horizon (lent_rows c.args.more.now) in
    let test = c.if-held-len-le-MOST_ROWS.true in
    (λ yes. omega (arith, few, c.len.ensures, test), λ fits. le-leb _ _ test)
