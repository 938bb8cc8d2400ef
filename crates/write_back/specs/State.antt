-- What a contract sees of a raster that is being written, and what each call does to it.
use Rattle.std.specs.Prelude.{◌≡◌, Bool, ℕ, ◌*◌, List, length, Option, Some, ◌==◌, if◌then◌else◌}
use Rattle.geotransform.specs.declared.types.Rect.{Rect}
use Rattle.outside.specs.Outside.{Files}
use Rattle.block_cache.specs.Entries.{PoolView, IsPool}
use Rattle.write_back.specs.declared.forms.Writer.{Writer}
use Rattle.write_back.specs.Forms.{cut_of, needed_of, IsFormed}
use Rattle.write_back.specs.Overlay.{AreLines, AreKept}

-- the number of blocks of all bands
abbrev pub block_total : Writer → ℕ
block_total w = (cut_of w).bands * (cut_of w).blocks

-- the blocks that a rectangle meets
abbrev pub blocks_met : Bool → Rect → ℕ
blocks_met by_columns rect = if by_columns then (if rect.h == 0 then 0 else rect.w)
    else (if rect.w == 0 then 0 else rect.h)

-- how many blocks of an output a rectangle meets
abbrev pub lines_met : Writer → Rect → ℕ
lines_met w rect = blocks_met (cut_of w).by_columns rect

-- what always holds of a pool of blocks, also over a folder that tells nothing
pub record IsSound (w : Writer) (pool : PoolView) : Type 0 where
  pub valid : IsPool pool
  pub lines : AreLines w pool.entries

-- the draft has these bytes, which are as many as the raster's data, and the clean blocks of the pool are what they
-- hold
pub record HasDraft (w : Writer) (pool : PoolView) (draft : Option (List ℕ)) (bytes : List ℕ) : Type 0 where
  pub is : draft ≡ Some bytes
  pub long : length bytes ≡ needed_of w
  pub formed : IsFormed w bytes
  pub kept : AreKept w pool.entries bytes

-- what holds as long as no call was refused: the draft is as long as the raster's data, and over a folder that tells
-- its files it tells what it holds
pub record IsRight (w : Writer) (told : Option Files) (len : ℕ) (draft : Option (List ℕ)) (pool : PoolView) : Type 0
  where
    pub long : len ≡ needed_of w
    pub holds : (m : Files) → told ≡ Some m → (b : List ℕ) × HasDraft w pool draft b
