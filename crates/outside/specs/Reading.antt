-- What calls that only read leave of a folder, and what holds of its files where it tells them.
use Rattle.std.specs.Prelude.{◌≡◌, ◌≤◌, Some}
use Rattle.outside.specs.Outside.{Files}
use Rattle.outside.specs.declared.folder.Folder.{Ghosts}

-- only reads were made: the files and the count of writes are as before, and the count of faults isn't lower
pub record OnlyRead {F File Draft : Type 0} (calls : Ghosts F File Draft) (before after : F) : Type 0 where
  pub names : calls.names after ≡ calls.names before
  pub writes : calls.write_calls after ≡ calls.write_calls before
  pub faults : calls.faults before ≤ calls.faults after

-- a fact of the folder's files, where it tells them
abbrev pub WhereTold : {F File Draft : Type 0} → Ghosts F File Draft → F → (Files → Type 0) → Type 0
WhereTold calls folder Fact = (m : Files) → calls.names folder ≡ Some m → Fact m
