use Rattle.adopt.proofs.cells.tell_cells.Given as goal

abbrev pub ghosts-tell_read : goal.ghosts-tell_read
ghosts-tell_read a = record { name = a.blank.name; parts = a.blank.parts }
