use Rattle.region_head.proofs.Heads.{closed_head, open_head}
use Rattle.region_layout.proofs.laws.one_head.Goals as goal

pub returns-clause-closed : goal.returns-clause-closed
returns-clause-closed c = closed_head

pub returns-clause-version : goal.returns-clause-version
returns-clause-version c = open_head
