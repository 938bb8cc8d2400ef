use Rattle.std.proofs.Common.{◌≡◌, ◌≤◌, ◌<◌, ◌+◌, ◌-◌, ◌/◌, length}
use Rattle.std.specs.Int.{div_ceil}
use Rattle.catalog.specs.Scanned.{HasFed}
use Rattle.catalog.proofs.grid.scan_pieces.Given as goal

-- the bytes so far were fed, as whole pieces until the end is reached
abbrev pub invariant-loop-at : goal.invariant-loop-at
invariant-loop-at g l = record {
  fed : HasFed l.scanner (g.F.Folder.file_bytes l.fn.file) l.at;
  within : l.at ≤ l.len;
  bytes : g.F.Folder.file_bytes l.file ≡ g.F.Folder.file_bytes l.fn.file;
  len : g.F.Folder.file_len l.file ≡ g.F.Folder.file_len l.fn.file;
  names : g.F.Folder.names l.folder ≡ g.F.Folder.names l.fn.folder;
  reads : g.F.Folder.read_calls l.folder ≤ g.F.Folder.read_calls l.fn.folder + div_ceil l.at (length l.fn.buffer);
  whole : l.at < l.len → g.F.Folder.read_calls l.folder ≤ g.F.Folder.read_calls l.fn.folder + l.at / length l.fn.buffer;
  write_calls : g.F.Folder.write_calls l.folder ≡ g.F.Folder.write_calls l.fn.folder;
  later : g.F.Folder.faults l.fn.folder ≤ g.F.Folder.faults l.folder;
}

abbrev pub decreases-loop-at : goal.decreases-loop-at
decreases-loop-at g l = l.len - l.at
