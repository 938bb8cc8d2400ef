use Rattle.std.proofs.Common.{◌≡◌, ◌≤◌, ◌+◌, ◌-◌, List, ℕ, length, Some}
use Rattle.std.specs.List.{range_with_len}
use Rattle.dted_records.specs.Places.{record_len}
use Rattle.catalog.specs.Heads.{broken_in}
use Rattle.catalog.proofs.dted.broken_line.Given as goal

-- the first record that isn't whole, if there is one, is among those that are left
abbrev pub invariant-loop-line : goal.invariant-loop-line
invariant-loop-line g l = record {
  told : (b : List ℕ) → g.F.Folder.file_bytes l.fn.file ≡ Some b → broken_in l.head b (range_with_len l.line (l.head.lines - l.line)) ≡ broken_in l.head b (range_with_len 0 l.head.lines);
  bytes : g.F.Folder.file_bytes l.file ≡ g.F.Folder.file_bytes l.fn.file;
  len : g.F.Folder.file_len l.file ≡ g.F.Folder.file_len l.fn.file;
  whole : length l.buffer ≡ record_len l.head;
  names : g.F.Folder.names l.folder ≡ g.F.Folder.names l.fn.folder;
  reads : g.F.Folder.read_calls l.folder ≤ g.F.Folder.read_calls l.fn.folder + l.line;
  write_calls : g.F.Folder.write_calls l.folder ≡ g.F.Folder.write_calls l.fn.folder;
  later : g.F.Folder.faults l.fn.folder ≤ g.F.Folder.faults l.folder;
}
