use Rattle.leaf_model.proofs.LentLaws.{cells_count}
use Rattle.leaf_model.proofs.fronts.SpelledCells.len.Goals as goal

pub returns : goal.returns
returns c = cells_count c.args.self.now.count c.args.self.now.bytes.now c.args.self.now.spelled
