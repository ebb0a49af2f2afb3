use Rattle.std.proofs.Common.{List, length, sym, ap, ◌∙◌, arith}
use Rattle.row_blocks.specs.declared.column.BlockColumn.{BlockColumn}
use Rattle.blocks_tests.proofs.Ranges.{one_of_two}
use Rattle.blocks_tests.proofs.scans.is_one_of_two.Goals as goal

pub returns-then-columns-eq2 : goal.returns-then-columns-eq2
returns-then-columns-eq2 c later =
    one_of_two c.args.query.now c.args.blocks.now c.near-item.result c.far-item.result (omega (arith, c.in-len2.len_at_least)) (omega (arith, c.in-len2.len_below))
    c.near-item.is c.far-item.is (sym (ap (λ (columns : List BlockColumn). length columns) c.columns.ensures) ∙ c.if-columns-eq2.true) (c.is_later.ensures later)
