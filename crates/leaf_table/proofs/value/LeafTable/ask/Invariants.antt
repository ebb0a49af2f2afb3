use Rattle.leaf_table.proofs.value.LeafTable.ask.Given as goal

abbrev pub ghosts-groups_of : goal.ghosts-groups_of
ghosts-groups_of g a = record { name = a.blank.name; parts = a.blank.parts }
