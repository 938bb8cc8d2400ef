use Rattle.synth_runs.proofs.telling.put_told.Given as goal

abbrev pub ghosts-tally_copied : goal.ghosts-tally_copied
ghosts-tally_copied g a = record { name = a.blank.name; parts = a.blank.parts }
