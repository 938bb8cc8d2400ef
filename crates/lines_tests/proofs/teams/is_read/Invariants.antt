use Rattle.lines_tests.proofs.teams.is_read.Given as goal

abbrev pub ghosts-is_read_counted : goal.ghosts-is_read_counted
ghosts-is_read_counted g a = record { name = a.blank.name; parts = a.blank.parts }
