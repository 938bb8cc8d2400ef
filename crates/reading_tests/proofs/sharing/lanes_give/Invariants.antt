use Rattle.reading_tests.proofs.sharing.lanes_give.Given as goal

abbrev pub ghosts-each_gives : goal.ghosts-each_gives
ghosts-each_gives g a = record { told = g.F.Folder.names a.folder.now; cat = a.cat.now }
