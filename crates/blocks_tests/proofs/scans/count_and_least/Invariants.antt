use Rattle.blocks_tests.proofs.scans.count_and_least.Given as goal

abbrev pub ghosts-count_and_least_over : goal.ghosts-count_and_least_over
ghosts-count_and_least_over g a = record { name = a.blank.name; parts = a.blank.parts }
