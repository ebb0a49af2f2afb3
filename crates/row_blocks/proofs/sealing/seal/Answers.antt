use Rattle.std.proofs.Common.{List, Option, IfSome, ℤ, Vec, Global, sym, subst}
use Rattle.leaf_model.specs.Lent.{lent_rows}
use Rattle.row_blocks.specs.declared.column.BlockColumn.{BlockColumn}
use Rattle.row_blocks.specs.Merging.{AreBare, HoldCells}
use Rattle.row_blocks.proofs.Sealed.{hold_none}
use Rattle.row_blocks.proofs.sealing.seal.Goals as goal

pub seal_with-requires-clause-others : goal.seal_with-requires-clause-others
seal_with-requires-clause-others c =
    let rows = lent_rows c.args.rows.now in
    subst (λ (l : List BlockColumn). HoldCells rows l) (sym c.new.ensures.items)
    (hold_none rows (subst (λ (o : Option (Vec ℤ Global)). IfSome o (λ _. AreBare rows)) c.in-Some.is c.in_ok-times.ensures.bare))
