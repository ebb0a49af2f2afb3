use Rattle.blocks_tests.proofs.scans.a_scan_takes_a_step_for_each_named_column_of_a_block_in_range.Given as goal

abbrev pub ghosts-sum_of_codes : goal.ghosts-sum_of_codes
ghosts-sum_of_codes g a = record { name = a.blank.name; parts = a.blank.parts }
