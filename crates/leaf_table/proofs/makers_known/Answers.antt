use Rattle.leaf_table.proofs.Knowing.{makers_known}
use Rattle.leaf_table.proofs.makers_known.Goals as goal

pub returns : goal.returns
returns c = λ v ids. makers_known v ids
