use Rattle.target_tests.proofs.packed.written_over.Given as goal

abbrev pub ghosts-patched : goal.ghosts-patched
ghosts-patched g a = record { name = a.blank.name; parts = a.blank.parts }
