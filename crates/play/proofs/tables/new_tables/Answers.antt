use Rattle.play.proofs.Fleets.{names_short}
use Rattle.play.proofs.tables.new_tables.Goals as goal

pub new-requires-clause-short : goal.new-requires-clause-short
new-requires-clause-short g c = names_short c.args.names.now c.requires.names.each
