use Rattle.std.proofs.Common.{arith}
use Rattle.row_blocks.proofs.Standing.{fit_decided}
use Rattle.row_blocks.proofs.places.fit_a_row.Goals as goal

pub returns-then-count_at-le-MAX_CELLS : goal.returns-then-count_at-le-MAX_CELLS
returns-then-count_at-le-MAX_CELLS c =
    fit_decided c.args.rows c.args.i c.args.columns.now c.do_names_ascend.result c.requires.each c.do_names_ascend.ensures (omega (arith, c.count_at.ensures, c.if-count_at-le-MAX_CELLS.true))
