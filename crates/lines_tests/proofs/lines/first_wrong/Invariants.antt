use Rattle.lines_tests.proofs.lines.first_wrong.Given as goal

abbrev pub ghosts-all_go : goal.ghosts-all_go
ghosts-all_go g a = record { told = g.F.Folder.names a.folder.now; cat = a.cat.now }
