use Rattle.lines_tests.proofs.lines.is_apart.Given as goal

abbrev pub ghosts-both_are_own : goal.ghosts-both_are_own
ghosts-both_are_own g a = record { told = g.F.Folder.names a.folder.now; cat = a.cat.now }
