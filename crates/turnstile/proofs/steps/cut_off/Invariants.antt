use Rattle.turnstile.proofs.steps.cut_off.Given as goal

abbrev pub ghosts-cut : goal.ghosts-cut
ghosts-cut g a = record { amount = a._share }
