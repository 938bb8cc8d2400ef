use Rattle.target_tests.proofs.packed.written.Given as goal

abbrev pub ghosts-carried : goal.ghosts-carried
ghosts-carried g a = record { name = a.blank.name; parts = a.blank.parts }
