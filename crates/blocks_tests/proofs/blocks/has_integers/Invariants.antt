use Rattle.blocks_tests.proofs.blocks.has_integers.Given as goal

abbrev pub ghosts-are_integers_counted : goal.ghosts-are_integers_counted
ghosts-are_integers_counted a = record { name = a.blank.name; parts = a.blank.parts }
