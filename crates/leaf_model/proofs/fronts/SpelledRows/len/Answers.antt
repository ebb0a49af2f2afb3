use Rattle.leaf_model.proofs.LentLaws.{rows_count}
use Rattle.leaf_model.proofs.fronts.SpelledRows.len.Goals as goal

pub returns : goal.returns
returns c = rows_count c.args.self.now.count c.args.self.now.bytes.now c.args.self.now.spelled
