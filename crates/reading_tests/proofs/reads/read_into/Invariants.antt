use Rattle.reading_tests.proofs.reads.read_into.Given as goal

abbrev pub ghosts-read_through : goal.ghosts-read_through
ghosts-read_through g a = record { name = a.blank.name; parts = a.blank.parts }
