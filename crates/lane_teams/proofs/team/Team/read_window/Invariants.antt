use Rattle.lane_teams.proofs.team.Team.read_window.Given as goal

abbrev pub ghosts-read_unshared : goal.ghosts-read_unshared
ghosts-read_unshared g a = record { told = g.F.Folder.names a.folder.now; cat = a.cat.now }
