use Rattle.output_copies.proofs.worker.hire_one.Given as goal

abbrev pub ghosts-kit_for : goal.ghosts-kit_for
ghosts-kit_for g a = record { name = a.blank.name; parts = a.blank.parts }
