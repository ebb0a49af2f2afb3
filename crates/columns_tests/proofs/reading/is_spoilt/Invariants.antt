use Rattle.columns_tests.proofs.reading.is_spoilt.Given as goal

abbrev pub ghosts-is_spoilt_counted : goal.ghosts-is_spoilt_counted
ghosts-is_spoilt_counted a = record { name = a.blank.name; parts = a.blank.parts }
