use Rattle.row_blocks.proofs.reading.view_of.Given as goal

abbrev pub ghosts-view_counted : goal.ghosts-view_counted
ghosts-view_counted a = record { name = a.blank.name; parts = a.blank.parts }
