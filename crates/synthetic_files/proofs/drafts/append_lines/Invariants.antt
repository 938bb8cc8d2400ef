use Rattle.std.proofs.Common.{◌≡◌, ◌≤◌, [], Some}
use Rattle.std.specs.Prelude.{flat_map}
use Rattle.std.specs.List.{range_with_len}
use Rattle.synthetic_rasters.specs.Tiles.{line_bytes}
use Rattle.synthetic_files.proofs.drafts.append_lines.Given as goal

-- the draft has the lines so far
abbrev pub invariant-loop-line : goal.invariant-loop-line
invariant-loop-line g l = record {
  held : g.F.Folder.draft_bytes l.fn.draft ≡ Some [] → g.F.Folder.draft_bytes l.draft ≡ Some (flat_map (line_bytes l.fn.side l.fn.tile) (range_with_len 0 l.line));
  name : g.F.Folder.draft_name l.draft ≡ g.F.Folder.draft_name l.fn.draft;
  side : l.room.side ≡ l.fn.side;
  names : g.F.Folder.names l.folder ≡ g.F.Folder.names l.fn.folder;
  writes : g.F.Folder.write_calls l.folder ≡ g.F.Folder.write_calls l.fn.folder;
  later : g.F.Folder.faults l.fn.folder ≤ g.F.Folder.faults l.folder;
}
