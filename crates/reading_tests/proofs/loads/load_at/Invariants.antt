use Rattle.reading_tests.proofs.loads.load_at.Given as goal

abbrev pub ghosts-load_counted : goal.ghosts-load_counted
ghosts-load_counted g a = record { name = a.blank.name; parts = a.blank.parts }
