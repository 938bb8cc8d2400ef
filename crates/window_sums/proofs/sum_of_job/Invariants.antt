use Rattle.window_sums.proofs.sum_of_job.Given as goal

abbrev pub ghosts-sum_of_dataset : goal.ghosts-sum_of_dataset
ghosts-sum_of_dataset g a = record { name = a.blank.name; parts = a.blank.parts }
