use Rattle.column_bytes.proofs.Distinct.{with_known}
use Rattle.column_bytes.proofs.text_set.TextSet.code_of.Goals as goal

pub returns-in-Some-clause-texts : goal.returns-in-Some-clause-texts
returns-in-Some-clause-texts c = with_known c.args.self.now c.args.text.now c.in-Some.code c.in-Some.ensures.below c.in-Some.ensures.code
