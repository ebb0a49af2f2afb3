use Rattle.leaf_model.proofs.LentLaws.{texts_count}
use Rattle.leaf_model.proofs.fronts.SpelledTexts.len.Goals as goal

pub returns : goal.returns
returns c = texts_count c.args.self.now.count c.args.self.now.bytes.now c.args.self.now.spelled
