-- Lines that are shared, one event at a time.
use Rattle.std.specs.Prelude.{◌≡◌, ℕ, zero, suc, ◌+◌, ◌-◌, ◌*◌, ◌%◌, ◌^◌, ◌<◌, List, [], ◌∷◌, replicate, Option, Some}
use Rattle.std.specs.Prelude.{slice_get, slice_set}
use Rattle.std.specs.List.{All}
use Rattle.outside.specs.Outside.{Files}
use Rattle.catalog.specs.Drivers.{Dataset}
use Rattle.band_blocks.specs.declared.key.BlockKey.{BlockKey}
use Rattle.band_blocks.specs.Blocks.{BlockView}
use Rattle.band_blocks.specs.Contents.{IsBlock}

-- What a line has: nothing, or a block with its key and so many readers. It is taken while one writes it.
pub data Line : Type 0 where
  empty : Line
  taken : Line
  held : BlockKey → BlockView → ℕ → Line

-- What may happen to a line: one more reader looks, who is shown a key and a block, or a reader leaves; a writer takes
-- the line, and puts a key and a block into it; or one who got no right to it is done.
pub data Kind : Type 0 where
  look : BlockKey → BlockView → Kind
  leave : Kind
  take : Kind
  put : BlockKey → BlockView → Kind
  done : Kind

-- what happens to the line of a number
pub record Event : Type 0 where
  pub at : ℕ
  pub kind : Kind

-- which line of so many is that of a key
abbrev pub key_line_of : ℕ → BlockKey → ℕ
key_line_of count key = (key.dataset * 31 + key.band * 7 + key.block) % count

-- the lines as they begin
abbrev pub opening : ℕ → List Line
opening count = replicate count empty

module _ (told : Option Files) (cat : List Dataset) (count : ℕ) where
  -- the block is that of the key, and the line is the key's
  abbrev pub IsRight : ℕ → BlockKey → BlockView → Type 0
  IsRight at key block = IsBlock told cat key block × (key_line_of count key ≡ at)

  -- what one event makes of its line
  abbrev pub Changes : ℕ → Line → Kind → Line → Type 0
  Changes at (held key block readers) (look k b) new = (k ≡ key) × (b ≡ block) × (readers < 2 ^ 30 - 1) ×
      (new ≡ held key block (readers + 1))
  Changes at (held key block (suc readers)) leave new = new ≡ held key block readers
  Changes at empty take new = new ≡ taken
  Changes at (held key block zero) take new = new ≡ taken
  Changes at taken (put key block) new = IsRight at key block × (new ≡ held key block 0)
  Changes at old done new = new ≡ old
  Changes at old kind new = ⊥

  -- an event changes its own line, and no other
  pub record Step (old : List Line) (event : Event) (new : List Line) : Type 0 where
    pub line : Line
    pub next : Line
    pub here : slice_get old event.at ≡ Some line
    pub changes : Changes event.at line event.kind next
    pub after : new ≡ slice_set old event.at next

  -- the events lead from the old lines to the new ones
  abbrev pub Leads : List Line → List Event → List Line → Type 0
  Leads old [] new = old ≡ new
  Leads old (event ∷ events) new = (mid : List Line) × Step old event mid × Leads mid events new

  -- a block that a line holds is right there
  abbrev pub IsRightLine : ℕ → Line → Type 0
  IsRightLine at empty = Unit {0}
  IsRightLine at taken = Unit {0}
  IsRightLine at (held key block readers) = IsRight at key block

  -- so is each
  abbrev pub AreRight : List Line → Type 0
  AreRight lines = (at : ℕ) (line : Line) → slice_get lines at ≡ Some line → IsRightLine at line

  -- a block that is shown is right there
  abbrev pub IsRightKind : ℕ → Kind → Type 0
  IsRightKind at (look key block) = IsRight at key block
  IsRightKind at leave = Unit {0}
  IsRightKind at take = Unit {0}
  IsRightKind at (put key block) = Unit {0}
  IsRightKind at done = Unit {0}

  abbrev pub ShowsRight : Event → Type 0
  ShowsRight event = IsRightKind event.at event.kind

  -- over every list of events from empty lines, each look shows the block of the key that it shows
  abbrev pub LooksAreRight : Type 0
  LooksAreRight = (events : List Event) (lines : List Line) → Leads (opening count) events lines → All ShowsRight events

  -- and each block that a line holds then is that of its key, in that key's line
  abbrev pub LinesAreRight : Type 0
  LinesAreRight = (events : List Event) (lines : List Line) → Leads (opening count) events lines → AreRight lines
