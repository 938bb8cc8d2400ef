use Rattle.std.proofs.Common.{◌≡◌, ◌≤◌, vec_len}
use Rattle.output_copies.proofs.worker.dismiss.Given as goal

-- the views so far
abbrev pub invariant-loop-worker : goal.invariant-loop-worker
invariant-loop-worker g l = record {
  names : g.F.Folder.names l.folder ≡ g.F.Folder.names l.fn.folder;
  later : g.F.Folder.faults l.fn.folder ≤ g.F.Folder.faults l.folder;
}

abbrev pub decreases-loop-worker : goal.decreases-loop-worker
decreases-loop-worker g l = vec_len l.workers
