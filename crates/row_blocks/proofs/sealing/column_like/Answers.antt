use Rattle.std.proofs.Common.{length, ◌∙◌}
use Rattle.leaf_model.specs.Lent.{each_value}
use Rattle.row_blocks.proofs.Means.{written}
use Rattle.row_blocks.proofs.sealing.column_like.Goals as goal

pub returns-clause-means : goal.returns-clause-means
returns-clause-means c = (written c.in_ok-bytes.bytes c.of-2.result (length c.args.values.now) (each_value c.args.values.now) c.in_ok-bytes.ensures.cells (c.of-2.ensures ∙ c.into_bytes.ensures)).0

pub returns-clause-cells : goal.returns-clause-cells
returns-clause-cells c = (written c.in_ok-bytes.bytes c.of-2.result (length c.args.values.now) (each_value c.args.values.now) c.in_ok-bytes.ensures.cells (c.of-2.ensures ∙ c.into_bytes.ensures)).1
