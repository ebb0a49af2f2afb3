use Rattle.std.proofs.Common.{length, ◌∙◌}
use Rattle.row_blocks.proofs.Means.{one_count}
use Rattle.row_blocks.proofs.rules.view_of_rows.Goals as goal

pub returns-else-len-rows : goal.returns-else-len-rows
returns-else-len-rows c = λ mean. c.if-len-rows.false (c.len.ensures.len ∙ one_count c.args.bytes.now (length c.in_ok-view.view.codes) c.args.rows c.in_ok-view.ensures.seen.mean mean)
