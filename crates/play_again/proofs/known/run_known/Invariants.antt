use Rattle.play_again.specs.Keeping.{bases_of}
use Rattle.play_again.proofs.known.run_known.Given as goal

abbrev pub ghosts-run_for : goal.ghosts-run_for
ghosts-run_for g a = record { base = bases_of a._known.now }
