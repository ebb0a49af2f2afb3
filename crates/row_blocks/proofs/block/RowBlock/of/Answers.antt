use Rattle.std.proofs.Common.{sym, subst}
use Rattle.row_blocks.specs.Blocks.{rows_in, times_of}
use Rattle.row_blocks.specs.Ordered.{AreSorted}
use Rattle.row_blocks.proofs.block.RowBlock.of.Goals as goal

pub invariant_of-result : goal.invariant_of-result
invariant_of-result c =
    (c.requires.block, c.requires.range, subst (AreSorted (times_of (rows_in (record { rows = c.args.rows; columns = c.args.columns })))) (sym c.new.ensures) tt)
