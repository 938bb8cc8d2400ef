-- What a folder, an input and a sink in memory hold: files, open drafts, schedules.
use Rattle.std.specs.Prelude.{ℕ, ◌+◌, ◌↔◌, ◌≡◌, ◌≢◌, min, List, [], ◌∷◌, length, Option, Some, IsSome, Contains}
use Rattle.std.specs.Prelude.{AllPairs, Bool}
use Rattle.std.specs.FinMap.{get, insert, empty}
use Rattle.lists_and_answers.specs.Lists.{with_name}
use Rattle.outside.specs.Outside.{Files}
use Rattle.outside.specs.declared.memory.MemDraft.{MemDraft}
use Rattle.outside.specs.declared.memory.MemFile.{MemFile}
use Rattle.outside.specs.declared.memory.MemoryFolder.{MemoryFolder}
use Rattle.outside.specs.declared.memory.Stored.{Stored}
use Rattle.outside.specs.declared.memory_streams.CalmSink.{CalmSink}
use Rattle.outside.specs.declared.memory_streams.MemoryInput.{MemoryInput}
use Rattle.outside.specs.declared.memory_streams.MemSink.{MemSink}
use Rattle.outside.specs.declared.schedule.Listed.{Listed}

-- a map after these files are put, the first of them first
abbrev pub put_all : Files → List Stored → Files
put_all m [] = m
put_all m (s ∷ ss) = put_all (insert m s.name s.bytes.items) ss

abbrev pub files_of : List Stored → Files
files_of ss = put_all empty ss

-- a list has each name under which a file stands, and no other
abbrev pub AreNames : List (List ℕ) → Option Files → Type 0
AreNames names told = (m : Files) → told ≡ Some m → (name : List ℕ) → Contains names name ↔ IsSome (get m name)

-- no name stands twice
abbrev pub AreApart : List (List ℕ) → Type 0
AreApart names = AllPairs (λ a b. a ≢ b) names

-- the names of a list, and then those of files that came one after another
abbrev pub names_with : List (List ℕ) → List Stored → List (List ℕ)
names_with names [] = names
names_with names (s ∷ ss) = names_with (with_name names s.name) ss

-- the names under which files stand in a folder, in the order in which they came
abbrev pub came_of : {P : Type 0} → MemoryFolder P → List (List ℕ)
came_of folder = names_with [] folder.files.items

-- the bytes of an open file
abbrev pub file_bytes_of : MemFile → Option (List ℕ)
file_bytes_of file = Some file.bytes.items

abbrev pub file_len_of : MemFile → ℕ
file_len_of file = length file.bytes.items

-- the name that a draft is for, its bytes and their number
abbrev pub draft_name_of : MemDraft → List ℕ
draft_name_of draft = draft.name

abbrev pub draft_bytes_of : MemDraft → Option (List ℕ)
draft_bytes_of draft = Some draft.bytes.items

abbrev pub draft_len_of : MemDraft → ℕ
draft_len_of draft = length draft.bytes.items

-- the files of a folder, and its two counts of calls
abbrev pub names_of : {P : Type 0} → MemoryFolder P → Option Files
names_of folder = Some (files_of folder.files.items)

abbrev pub reads_of : {P : Type 0} → MemoryFolder P → ℕ
reads_of folder = folder.reads

abbrev pub writes_of : {P : Type 0} → MemoryFolder P → ℕ
writes_of folder = folder.writes

-- which of its calls fail
abbrev pub schedule_of : {P : Type 0} → MemoryFolder P → P
schedule_of folder = folder.schedule

-- how many of its drafts are neither published nor given up
abbrev pub drafts_of : {P : Type 0} → MemoryFolder P → ℕ
drafts_of folder = folder.drafts

-- so many drafts more, up to the end of a u32
abbrev pub drafts_more : ℕ → ℕ → ℕ
drafts_more drafts more = min (drafts + more) 4294967295

-- which calls of an input fail
abbrev pub input_schedule_of : {P : Type 0} → MemoryInput P → P
input_schedule_of input = input.schedule

-- how many bytes a call of an input gives at most
abbrev pub most_of : {P : Type 0} → MemoryInput P → ℕ
most_of input = input.most

-- which calls of a sink fail, and how many bytes such a call takes before it fails
abbrev pub sink_schedule_of : MemSink → Listed
sink_schedule_of sink = sink.schedule

abbrev pub front_of : MemSink → ℕ
front_of sink = sink.front

-- whether a sink has all that it got in memory
abbrev pub is_whole : CalmSink → Bool
is_whole sink = sink.whole
