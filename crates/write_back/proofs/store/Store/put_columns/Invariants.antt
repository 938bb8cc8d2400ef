use Rattle.std.proofs.Common.{◌≡◌, ◌≤◌, ◌*◌, length}
use Rattle.write_back.specs.Turned.{IsGroup}
use Rattle.write_back.specs.Seen.{state_of}
use Rattle.write_back.specs.Stores.{AreMet, Changes, Serves}
use Rattle.write_back.proofs.Lines.{AreColumns}
use Rattle.write_back.proofs.store.Store.put_columns.Given as goal

abbrev pub invariant-loop-x : goal.invariant-loop-x
invariant-loop-x g l = record {
  head : l.self.writer ≡ l.fn.self.writer;
  room : length l.group ≡ l.most * l.rect.h;
  first : l.held.first ≤ l.x;
  held : IsGroup l.samples l.rect l.most l.held l.group;
  serves : Serves l.fn.self.writer l.x 0 (state_of g.F.Folder l.fn.folder l.fn.self l.fn.writes) (state_of g.F.Folder l.folder l.self l.writes);
  changed : Changes l.fn.self.writer (AreColumns l.fn.self.writer l.band l.rect l.x l.samples) (state_of g.F.Folder l.fn.folder l.fn.self l.fn.writes) (state_of g.F.Folder l.folder l.self l.writes);
  met : AreMet l.fn.self.writer l.band l.rect.x l.x (state_of g.F.Folder l.fn.folder l.fn.self l.fn.writes) (state_of g.F.Folder l.folder l.self l.writes);
  later : g.F.Folder.faults l.fn.folder ≤ g.F.Folder.faults l.folder;
}
