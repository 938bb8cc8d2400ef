use Rattle.output_copies.proofs.output.write_planned.Given as goal

abbrev pub ghosts-write_files-L-Ledger : goal.ghosts-write_files-L-Ledger
ghosts-write_files-L-Ledger g a = record { name = a.loads.name; parts = a.loads.parts }

abbrev pub ghosts-write_files-W-Ledger : goal.ghosts-write_files-W-Ledger
ghosts-write_files-W-Ledger g a = record { name = a.writes.name; parts = a.writes.parts }

abbrev pub ghosts-write_files-S-Scene : goal.ghosts-write_files-S-Scene
ghosts-write_files-S-Scene g a = record { told = g.F.Folder.names a.folder.now; cat = a.translation.now.cat }

abbrev pub ghosts-write_packed-W-Ledger : goal.ghosts-write_packed-W-Ledger
ghosts-write_packed-W-Ledger g a = record { name = a.writes.name; parts = a.writes.parts }

abbrev pub ghosts-write_packed-S-Scene : goal.ghosts-write_packed-S-Scene
ghosts-write_packed-S-Scene g a = record { told = g.F.Folder.names a.folder.now; cat = a.translation.now.cat }
