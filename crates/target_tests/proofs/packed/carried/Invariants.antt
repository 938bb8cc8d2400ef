use Rattle.std.proofs.Common.{◌≡◌, []}
use Rattle.write_back.specs.Files.{IsTarget}
use Rattle.write_back.specs.View.{Blocks}
use Rattle.target_tests.proofs.packed.carried.Given as goal

-- the target takes blocks, and its pool holds none
abbrev pub invariant-loop-block : goal.invariant-loop-block
invariant-loop-block g l = record {
  target : IsTarget (g.F.Folder.names l.folder) l.target;
  output : l.target.output ≡ Blocks l.packing;
  empty : l.target.pool.entries ≡ [];
}
