use Rattle.play_again.proofs.Again.{bases_again}
use Rattle.play_again.proofs.over.run_over.Goals as goal

pub returns-clause-ran : goal.returns-clause-ran
returns-clause-ran g c = (c.in_ok-known.known, c.in_ok-known.ensures, c.run_known-status.ensures)

pub returns-clause-again : goal.returns-clause-again
returns-clause-again g c = bases_again c.run_known-status.ensures c.in_ok-known.ensures
