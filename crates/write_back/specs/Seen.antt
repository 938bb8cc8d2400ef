-- How an output's data is seen.
use Rattle.std.specs.Prelude.{ℕ, List, [], Option}
use Rattle.outside.specs.declared.folder.Folder.{Ghosts}
use Rattle.dted_records.specs.Text.{head_text}
use Rattle.block_cache.specs.Entries.{pool_view}
use Rattle.write_back.specs.declared.forms.Writer.{Writer}
use Rattle.write_back.specs.declared.forms.Writer.TheVariants as writers
use Rattle.write_back.specs.declared.packing.PackedForm.{PackedForm}
use Rattle.write_back.specs.declared.packing.PackedForm.TheVariants as forms
use Rattle.write_back.specs.declared.sheet.Kind.{Kind}
use Rattle.write_back.specs.declared.sheet.Kind.TheVariants as kinds
use Rattle.write_back.specs.declared.store.Store.{Store}
use Rattle.write_back.specs.Columns.{cell_with_front}
use Rattle.write_back.specs.Stores.{StoreState, store_state}
use Rattle.write_back.specs.Unwritten.{known}
use Rattle.write_back.specs.View.{Blocks, Rows, SheetView}

-- what a store knows of its draft's bytes
abbrev pub known_in : {F File D : Type 0} → (D → Option (List ℕ)) → Store F File D → Option (List ℕ)
known_in bytes s = known s.writer s.written (bytes s.draft)

-- a store with its folder and a count of written blocks
abbrev pub state_of : {F File D : Type 0} → Ghosts F File D → F → Store F File D → ℕ → StoreState
state_of calls folder s writes = store_state (calls.names folder) s.pool (known_in calls.draft_bytes s)
    (calls.draft_len s.draft) (calls.draft_name s.draft) (calls.faults folder) (calls.read_calls folder)
    (calls.write_calls folder) writes

-- blocks have a pool, and lines a count
abbrev pub sheet_of : {F File D : Type 0} → (D → Option (List ℕ)) → (D → ℕ) → (D → List ℕ) → Kind F File D → SheetView
sheet_of bytes len name (kinds.Blocks s) = record {
  output = Blocks s.writer;
  pool = s.pool;
  draft = known_in bytes s;
  len = len s.draft;
  name = name s.draft;
  lines = 0;
}
sheet_of bytes len name (kinds.Rows r) = record {
  output = Rows r.form;
  pool = pool_view [] 0;
  draft = bytes r.draft;
  len = len r.draft;
  name = name r.draft;
  lines = r.lines;
}

-- blocks are packed for what writes them
abbrev pub writer_by : PackedForm → Writer
writer_by (forms.Lines h) = writers.Raw h
writer_by (forms.Tile side) = writers.Hgt side
writer_by (forms.Columns h) = writers.Dted (cell_with_front h (head_text h))
