use Rattle.columns_tests.proofs.reading.is_vector.Given as goal

abbrev pub ghosts-is_vector_counted : goal.ghosts-is_vector_counted
ghosts-is_vector_counted a = record { name = a.blank.name; parts = a.blank.parts }
