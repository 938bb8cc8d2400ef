-- When a lane is right for a catalog and a folder.
use Rattle.std.specs.Prelude.{◌≡◌, ℕ, ℤ, true, List, All, Option, Some, IfSome, Contains, Result, Ok, Err}
use Rattle.std.specs.Prelude.{slice_get}
use Rattle.geotransform.specs.Types.{is_in}
use Rattle.geotransform.specs.declared.types.PixelType.{PixelType}
use Rattle.outside.specs.Outside.{Files}
use Rattle.outside.specs.Reading.{WhereTold}
use Rattle.outside.specs.declared.folder.Folder.{Ghosts}
use Rattle.vrt_profile.specs.Values.{BandValue, DocumentValue}
use Rattle.mosaic_sources.specs.Rows.{IsIndexOf}
use Rattle.catalog.specs.Drivers.{Dataset, document_of}
use Rattle.catalog.specs.Pixels.{pixel_of}
use Rattle.catalog.specs.Walk.{IsWalked}
use Rattle.band_blocks.specs.declared.key.BlockKey.{BlockKey}
use Rattle.band_blocks.specs.declared.key.PixelKey.{PixelKey}
use Rattle.band_blocks.specs.Contents.{IsBlock}
use Rattle.band_blocks.specs.declared.fault.LoadFault.{LoadFault}
use Rattle.band_blocks.specs.declared.fault.LoadFault.TheVariants.{FolderFault, Changed, Memory}
use Rattle.band_blocks.specs.Open.{AreGood, TellsChangeOf}
use Rattle.block_cache.specs.declared.pool.Entry.{Entry}
use Rattle.block_cache.specs.Entries.{PoolView, IsPool}
use Rattle.nearest_window.specs.declared.indexes.Kept.{Kept}
use Rattle.nearest_window.specs.Lanes.{LaneView}
use Rattle.catalog.specs.Dataset.{type_at}

-- each held block is that of its key
abbrev pub AreBlocks : Option Files → List Dataset → List (BlockKey × Entry) → Type 0
AreBlocks told cat entries = (key : BlockKey) (entry : Entry) → Contains entries (key, entry) →
    IsBlock told cat key entry.block

-- the sample is of the type of its pixel's band, and over a folder that tells its files it is the pixel's
pub record IsRecalled (told : Option Files) (cat : List Dataset) (key : PixelKey) (sample : ℤ) : Type 0 where
  pub dataset : Dataset
  pub at : slice_get cat key.dataset ≡ Some dataset
  pub kind : PixelType
  pub kind_is : type_at dataset.head key.band ≡ Some kind
  pub range : is_in kind sample ≡ true
  pub content : (m : Files) → told ≡ Some m → sample ≡ pixel_of m cat key.dataset key.band key.x key.y

-- each remembered sample is that of its pixel
abbrev pub AreRecalled : Option Files → List Dataset → List (PixelKey × ℤ) → Type 0
AreRecalled told cat recalled = (key : PixelKey) (sample : ℤ) → Contains recalled (key, sample) →
    IsRecalled told cat key sample

-- The kept band is one of a mosaic of the catalog, and its index, if there is one, is that of the band's sources.
pub record IsIndexIn (cat : List Dataset) (kept : Kept) : Type 0 where
  pub dataset : Dataset
  pub at : slice_get cat kept.dataset ≡ Some dataset
  pub document : DocumentValue
  pub content : document_of dataset.content ≡ Some document
  pub band : BandValue
  pub band_at : slice_get document.bands kept.band ≡ Some band
  pub index : IfSome kept.index (IsIndexOf band.sources dataset.head.size)

-- a lane's pool, its open files, what it remembers beside the pool, its indexes and its remembered samples are right
pub record IsRight {File : Type 0} (bytes : File → Option (List ℕ)) (len : File → ℕ) (told : Option Files)
    (cat : List Dataset) (pool : PoolView) (files : List (ℕ × File)) (made : PoolView) (indexes : List Kept)
    (recalled : List (PixelKey × ℤ)) : Type 0 where
  pub valid : IsPool pool
  pub blocks : AreBlocks told cat pool.entries
  pub good : AreGood bytes len told cat files
  pub made_valid : IsPool made
  pub remembered : AreBlocks told cat made.entries
  pub listed : All (IsIndexIn cat) indexes
  pub pixels : AreRecalled told cat recalled

-- the lane is right for a catalog and what a folder tells
abbrev pub IsRightLane : {F File Draft : Type 0} → Ghosts F File Draft → Option Files → List Dataset → LaneView File →
    Type 0
IsRightLane calls told cat lane =
    IsRight calls.file_bytes calls.file_len told cat lane.pool lane.files lane.made lane.indexes lane.recalled

-- The lane is ready for a catalog and a folder: what it holds is right for both, and over a folder that tells its files
-- the catalog was walked over them.
pub record IsReady {F File Draft : Type 0} (calls : Ghosts F File Draft) (folder : F) (cat : List Dataset)
    (lane : LaneView File) : Type 0 where
  pub right : IsRightLane calls (calls.names folder) cat lane
  pub walked : WhereTold calls folder (λ m. IsWalked m cat)

-- the lane is ready for each folder and each catalog that was walked over it
abbrev pub IsFresh : {F File Draft : Type 0} → Ghosts F File Draft → LaneView File → Type 0
IsFresh {F} calls lane = (folder : F) (cat : List Dataset) → WhereTold calls folder (λ m. IsWalked m cat) →
    IsReady calls folder cat lane

-- a refused call may have loaded one block that isn't held
abbrev pub slack_of : {T E : Type 0} → Result T E → ℕ
slack_of (Ok x) = 0
slack_of (Err e) = 1

-- where the fault says that a file changed, it is that of a dataset of the catalog, and the fault says its name, the
-- length that the walk found, and another length or none
abbrev pub TellsChangeIn : List Dataset → LoadFault → Type 0
TellsChangeIn cat FolderFault = Unit {0}
TellsChangeIn cat (Changed name was now) = (id : ℕ) × (d : Dataset) × (slice_get cat id ≡ Some d) ×
    TellsChangeOf d (Changed name was now)
TellsChangeIn cat Memory = Unit {0}
