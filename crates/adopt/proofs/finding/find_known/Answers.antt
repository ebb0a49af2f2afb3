use Rattle.adopt.proofs.Known.{stranger_named}
use Rattle.adopt.proofs.finding.find_known.Goals as goal

pub returns-in-Err-clause-ready : goal.returns-in-Err-clause-ready
returns-in-Err-clause-ready g c = stranger_named c.as_slice.result.now c.args.looked.directory.tables c.in-Err.name c.requires.read.itself.each c.in-Err.ensures.stranger
