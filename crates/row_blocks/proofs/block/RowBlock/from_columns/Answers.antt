use Rattle.std.proofs.Common.{List, sym, subst}
use Rattle.row_blocks.specs.declared.column.BlockColumn.{BlockColumn}
use Rattle.row_blocks.specs.Blocks.{IsBlock, rows_in, times_of}
use Rattle.time_range.specs.Ranges.{IsRangeOf}
use Rattle.row_blocks.proofs.Accepted.{refused_as}
use Rattle.row_blocks.proofs.block.RowBlock.from_columns.Goals as goal

pub of-requires-clause-block : goal.of-requires-clause-block
of-requires-clause-block c = subst (λ (l : List BlockColumn). IsBlock (record { rows = c.args.rows; columns = l })) c.as_slice.ensures c.in-Ok.ensures.0

pub of-requires-clause-range : goal.of-requires-clause-range
of-requires-clause-range c =
    subst (λ (l : List BlockColumn). IsRangeOf (times_of (rows_in (record { rows = c.args.rows; columns = l }))) c.in-Ok.range) c.as_slice.ensures c.in-Ok.ensures.1

pub returns-in-Err-clause-refused : goal.returns-in-Err-clause-refused
returns-in-Err-clause-refused c = λ e is.
    refused_as c.args.rows c.as_slice.result.now c.in-Err.fault c.in-Err.ensures e
    (subst (λ (l : List BlockColumn). IsBlock (record { rows = c.args.rows; columns = l })) (sym c.as_slice.ensures) is)

pub returns-in-Ok-clause-block : goal.returns-in-Ok-clause-block
returns-in-Ok-clause-block c =
    subst IsBlock (sym c.of.ensures) (subst (λ (l : List BlockColumn). IsBlock (record { rows = c.args.rows; columns = l })) c.as_slice.ensures c.in-Ok.ensures.0)
