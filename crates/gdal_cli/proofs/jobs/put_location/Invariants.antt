use Rattle.gdal_cli.proofs.jobs.put_location.Given as goal

abbrev pub ghosts-put_answers-L-Ledger : goal.ghosts-put_answers-L-Ledger
ghosts-put_answers-L-Ledger g a = record { name = a.blank.name; parts = a.blank.parts }

abbrev pub ghosts-put_answers-S-Scene : goal.ghosts-put_answers-S-Scene
ghosts-put_answers-S-Scene g a = record { told = g.F.Folder.names a.folder.now; cat = a.question.now.cat }
