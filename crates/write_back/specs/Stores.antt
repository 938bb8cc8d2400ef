-- What calls do to a pool and its draft, and to the samples of their blocks.
use Rattle.std.specs.Prelude.{ℕ, ℤ, List, ◌≡◌, pos, ◌+◌, ◌*◌, ◌<◌, length, get_or, Option, ◌≤◌, Some}
use Rattle.geotransform.specs.declared.types.Rect.{Rect}
use Rattle.outside.specs.Outside.{Files}
use Rattle.band_blocks.specs.Spread.{IsBeside}
use Rattle.band_blocks.specs.declared.key.BlockKey.{BlockKey}
use Rattle.block_cache.specs.declared.pool.Entry.{Entry}
use Rattle.block_cache.specs.Entries.{PoolView}
use Rattle.write_back.specs.declared.forms.Writer.{Writer}
use Rattle.write_back.specs.Spots.{HasPixel, IsSpot}
use Rattle.write_back.specs.Forms.{pixel_sample, cut_of, under, IsFormed, TellsMet, most_calls}
use Rattle.write_back.specs.Overlay.{IsOverlaid, line_key, WasMet, overlay}
use Rattle.write_back.specs.declared.writer.BandPlaces.{BandPlaces}
use Rattle.write_back.specs.State.{block_total, IsSound, HasDraft}

-- the rectangle of n samples of a block
abbrev pub line_rect : ℕ → ℕ → ℕ → Rect
line_rect spot block n = record { x = spot; y = block; w = n; h = 1 }

-- a band's pixels are these inside a rectangle, row by row, and all others are as before, by the samples of the blocks
abbrev pub IsWindow : Writer → ℕ → Rect → List ℤ → (ℕ → ℕ → ℕ → ℤ) → (ℕ → ℕ → ℕ → ℤ) → Type 0
IsWindow w band rect samples old new =
    IsOverlaid (HasPixel w) band rect samples (pixel_sample w old) (pixel_sample w new)

-- samples stand in places of a block, from the first of them on and so far apart, and all others of the places are as
-- before
pub record IsPut (w : Writer) (places : BandPlaces) (block : ℕ) (samples : List ℤ) (old new : ℕ → ℕ → ℕ → ℤ)
    : Type 0 where
  pub here : (i : ℕ) → i < length samples →
      new places.band (places.start + i * places.stride) block ≡ get_or samples i (pos 0)
  pub others : (k u v : ℕ) → IsSpot w k u v → (k ≡ places.band → v ≡ block →
      IsBeside (length samples) places.start places.stride u) → new k u v ≡ old k u v

-- the block of a key has these samples, and all other blocks are as before
pub record IsLineSet (w : Writer) (key : BlockKey) (line : List ℤ) (old new : ℕ → ℕ → ℕ → ℤ) : Type 0 where
  pub here : (u : ℕ) → u < (cut_of w).spots → new key.band u key.block ≡ get_or line u (pos 0)
  pub others : (k u v : ℕ) → IsSpot w k u v → (line_key k v ≡ key → ⊥) → new k u v ≡ old k u v

-- no sample changed
abbrev pub AreSame : Writer → (ℕ → ℕ → ℕ → ℤ) → (ℕ → ℕ → ℕ → ℤ) → Type 0
AreSame w old new = (k u v : ℕ) → IsSpot w k u v → new k u v ≡ old k u v

-- the draft got the samples of the block of a key, and every other sample stays
pub record IsBlockWritten (w : Writer) (key : BlockKey) (samples : List ℤ) (old new : List ℕ) : Type 0 where
  pub len : length new ≡ length old
  pub formed : IsFormed w old → IsFormed w new
  pub here : (u : ℕ) → u < (cut_of w).spots → under w new key.band u key.block ≡ get_or samples u (pos 0)
  pub others : (k u v : ℕ) → IsSpot w k u v → (line_key k v ≡ key → ⊥) → under w new k u v ≡ under w old k u v
  pub met : TellsMet w new key.block
  pub stays : (v : ℕ) → v < (cut_of w).blocks → TellsMet w old v → TellsMet w new v

-- each block that was met stays so
abbrev pub Stays : Writer → List (BlockKey × Entry) → List ℕ → List (BlockKey × Entry) → List ℕ → Type 0
Stays w es b fs c = (k v : ℕ) → k < (cut_of w).bands → v < (cut_of w).blocks → WasMet w es b k v → WasMet w fs c k v

-- a pool and a draft with their folder and the count of written blocks, at one moment
pub record StoreState : Type 0 where
  pub told : Option Files
  pub pool : PoolView
  pub draft : Option (List ℕ)
  pub len : ℕ
  pub name : List ℕ
  pub faults : ℕ
  pub reads : ℕ
  pub calls : ℕ
  pub writes : ℕ

-- a store at one moment, of these parts
abbrev pub store_state : Option Files → PoolView → Option (List ℕ) → ℕ → List ℕ → ℕ → ℕ → ℕ → ℕ → StoreState
store_state told pool draft len name faults reads calls writes = record {
  told = told;
  pool = pool;
  draft = draft;
  len = len;
  name = name;
  faults = faults;
  reads = reads;
  calls = calls;
  writes = writes;
}

-- What each call does to a pool and a draft, whatever it answers. At most n blocks are written, and at most `slack`
-- where the pool has room for all blocks; none of them takes more calls than the most that a block needs.
pub record Serves (w : Writer) (n slack : ℕ) (before after : StoreState) : Type 0 where
  pub sound : IsSound w after.pool
  pub told : after.told ≡ before.told
  pub name : after.name ≡ before.name
  pub capacity : after.pool.capacity ≡ before.pool.capacity
  pub reads : after.reads ≡ before.reads
  pub faults : before.faults ≤ after.faults
  pub writes : before.writes ≤ after.writes
  pub calls : after.calls + most_calls w * before.writes ≤ before.calls + most_calls w * after.writes
  pub few : after.writes ≤ before.writes + n
  pub bound : block_total w ≤ before.pool.capacity → after.writes ≤ before.writes + slack

-- the draft keeps its length, and where it told what it holds it tells it again, the samples change as P says, and each
-- block that was met stays so
pub record Changes (w : Writer) (P : (ℕ → ℕ → ℕ → ℤ) → (ℕ → ℕ → ℕ → ℤ) →
    Type 0) (before after : StoreState) : Type 0 where
  pub long : after.len ≡ before.len
  pub told : (b : List ℕ) → HasDraft w before.pool before.draft b →
      (c : List ℕ) × HasDraft w after.pool after.draft c × P (overlay w before.pool.entries b)
      (overlay w after.pool.entries c) × Stays w before.pool.entries b after.pool.entries c

-- so many columns of a band from one on were met, by what the draft holds now
pub record AreMet (w : Writer) (band x n : ℕ) (before after : StoreState) : Type 0 where
  pub each : (b c : List ℕ) → HasDraft w before.pool before.draft b → after.draft ≡ Some c → (i : ℕ) → i < n →
      WasMet w after.pool.entries c band (x + i)
