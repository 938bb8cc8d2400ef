use Rattle.band_blocks.specs.Open.{AreGood}
use Rattle.reading_tests.proofs.loads.load_each.Given as goal

abbrev pub invariant-loop-id : goal.invariant-loop-id
invariant-loop-id g l = AreGood g.F.Folder.file_bytes g.F.Folder.file_len (g.F.Folder.names l.folder) l.cat l.files
