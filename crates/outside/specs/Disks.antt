-- What the folder of the system counts, and what its files and drafts say of themselves.
use Rattle.std.specs.Prelude.{ℕ, List}
use Rattle.outside.specs.declared.disk.DiskDraft.{DiskDraft}
use Rattle.outside.specs.declared.disk.DiskFile.{DiskFile}
use Rattle.outside.specs.declared.disk.DiskFolder.{DiskFolder}

-- how many calls failed
abbrev pub faults_of : {R : Type 0} → DiskFolder R → ℕ
faults_of folder = folder.faults

-- the two counts of calls
abbrev pub reads_of : {R : Type 0} → DiskFolder R → ℕ
reads_of folder = folder.reads

abbrev pub writes_of : {R : Type 0} → DiskFolder R → ℕ
writes_of folder = folder.writes

-- the length that an open file had
abbrev pub file_len_of : DiskFile → ℕ
file_len_of file = file.len

-- the name that a draft is for, and its length
abbrev pub draft_name_of : DiskDraft → List ℕ
draft_name_of draft = draft.name

abbrev pub draft_len_of : DiskDraft → ℕ
draft_len_of draft = draft.len
