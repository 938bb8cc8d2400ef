use Rattle.std.proofs.Common.{◌≡◌, ◌≤◌, ◌+◌, ◌++◌, List, ℤ}
use Rattle.write_back.specs.Grids.{HasRows}
use Rattle.write_back.specs.Spots.{cut_rows}
use Rattle.write_back.proofs.rows.RowStore.put_lines.Given as goal

abbrev pub invariant-loop-row : goal.invariant-loop-row
invariant-loop-row g l = record {
  form : l.self.form ≡ l.fn.self.form;
  lines : l.self.lines ≡ l.fn.self.lines + l.row;
  told : (rows : List (List ℤ)) → HasRows l.fn.self.form l.fn.self.lines (g.F.Folder.draft_bytes l.fn.self.draft) rows → HasRows l.fn.self.form l.self.lines (g.F.Folder.draft_bytes l.self.draft) (rows ++ cut_rows l.fn.rect.w l.row l.samples);
  name : g.F.Folder.draft_name l.self.draft ≡ g.F.Folder.draft_name l.fn.self.draft;
  names : g.F.Folder.names l.folder ≡ g.F.Folder.names l.fn.folder;
  reads : g.F.Folder.read_calls l.folder ≡ g.F.Folder.read_calls l.fn.folder;
  calls : g.F.Folder.write_calls l.folder ≡ g.F.Folder.write_calls l.fn.folder;
  counted : l.fn.writes ≤ l.writes;
  few : l.writes ≤ l.fn.writes + l.row;
  later : g.F.Folder.faults l.fn.folder ≤ g.F.Folder.faults l.folder;
}
