use Rattle.columns_tests.proofs.encoding.is_read_back.Given as goal

abbrev pub ghosts-is_read_back_counted : goal.ghosts-is_read_back_counted
ghosts-is_read_back_counted a = record { name = a.blank.name; parts = a.blank.parts }
