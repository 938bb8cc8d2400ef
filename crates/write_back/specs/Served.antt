-- What calls do to an output's data, its folder and a count of written blocks.
use Rattle.std.specs.Prelude.{◌≡◌, ℕ, Option, ◌≤◌, ◌+◌, ◌-◌, ◌*◌, ℤ, List, IsSome, min}
use Rattle.geotransform.specs.declared.types.Rect.{Rect}
use Rattle.outside.specs.declared.folder.Folder.{Ghosts}
use Rattle.outside.specs.Outside.{Files}
use Rattle.write_back.specs.View.{SheetView, window_blocks, all_blocks, calls_of, IsPooled, IsSoundOn, IsIn, shown_on}
use Rattle.write_back.specs.View.{IsRightOn, Meets, lines_after}
use Rattle.write_back.specs.Overlay.{IsOverlaid}

-- what new drafts leave as it was: the names, and the counts of reads and writes
pub record IsLeft (told told' : Option Files) (r r' c c' : ℕ) : Type 0 where
  pub names : told' ≡ told
  pub reads : r' ≡ r
  pub calls : c' ≡ c

-- what new drafts leave of a folder as it was
abbrev pub IsLeftIn : {F File D : Type 0} → Ghosts F File D → F → F → Type 0
IsLeftIn calls folder folder' = IsLeft (calls.names folder) (calls.names folder') (calls.read_calls folder)
    (calls.read_calls folder') (calls.write_calls folder) (calls.write_calls folder')

-- what a window does to an output's data and its folder, whatever it answers
pub record Keeps (rect : Rect) (old new : SheetView) (told told' : Option Files) (r r' c c' w w' : ℕ) : Type 0 where
  pub sound : IsSoundOn old.output new
  pub output : new.output ≡ old.output
  pub name : new.name ≡ old.name
  pub capacity : new.pool.capacity ≡ old.pool.capacity
  pub names : told' ≡ told
  pub reads : r' ≡ r
  pub counted : w ≤ w'
  pub few : w' ≤ w + window_blocks old.output rect
  pub none : IsPooled old.output → all_blocks old.output ≤ old.pool.capacity → w' ≡ w
  pub calls : c' ≤ c + calls_of old.output * (w' - w)

-- what a window does to an output's data and its folder, whatever it answers, by what the folder tells
abbrev pub KeepsIn : {F File D : Type 0} → Ghosts F File D → Rect → F → SheetView → ℕ → F → SheetView → ℕ → Type 0
KeepsIn calls rect folder old w folder' new w' = Keeps rect old new (calls.names folder) (calls.names folder')
    (calls.read_calls folder) (calls.read_calls folder') (calls.write_calls folder) (calls.write_calls folder') w w'

-- what a window does besides where it answers Ok
pub record PutsWindow (band : ℕ) (rect : Rect) (samples : List ℤ) (told told' : Option Files) (old new : SheetView)
    : Type 0 where
  pub right : IsRightOn old.output told' new
  pub overlay : IsSome told → IsOverlaid (IsIn old.output) band rect samples (shown_on old.output old.pool old.draft)
      (shown_on old.output new.pool new.draft)
  pub met : IsSome told → Meets old.output rect old new
  pub lines : new.lines ≡ lines_after old.output old.lines rect

-- what the last writing does, whatever it answers
pub record Finishes (old new : SheetView) (told told' : Option Files) (r r' c c' w w' : ℕ) : Type 0 where
  pub name : new.name ≡ old.name
  pub names : told' ≡ told
  pub reads : r' ≡ r
  pub counted : w ≤ w'
  pub few : w' ≤ w + min old.pool.capacity (all_blocks old.output)
  pub calls : c' ≤ c + calls_of old.output * (w' - w)

-- what the last writing does, by what the folder tells
abbrev pub FinishesIn : {F File D : Type 0} → Ghosts F File D → F → SheetView → ℕ → F → SheetView → ℕ → Type 0
FinishesIn calls folder old w folder' new w' = Finishes old new (calls.names folder) (calls.names folder')
    (calls.read_calls folder) (calls.read_calls folder') (calls.write_calls folder) (calls.write_calls folder') w w'
