use Rattle.reading_tests.proofs.sharing.view_gives.Given as goal

abbrev pub ghosts-gives : goal.ghosts-gives
ghosts-gives g a = record { name = a.blank.name; parts = a.blank.parts }
