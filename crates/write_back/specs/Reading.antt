-- What the files of an output are read as.
use Rattle.std.specs.Prelude.{◌≡◌, ◌<◌, ℕ, ℤ, Bool, true, List, [], ◌∷◌, length, slice_get, Some, Ok}
use Rattle.std.specs.FinMap.{get}
use Rattle.geotransform.specs.Geo.{Transform}
use Rattle.geotransform.specs.declared.types.PixelType.{PixelType}
use Rattle.geotransform.specs.declared.types.PixelType.TheVariants.{Int32}
use Rattle.outside.specs.Outside.{Files}
use Rattle.ascii_grid.specs.Text.{placing_of, IsReadAgain}
use Rattle.catalog.specs.declared.kind.BandHead.{BandHead}
use Rattle.catalog.specs.Dataset.{band_at, band_count, DatasetHead}
use Rattle.catalog.specs.Heads.{head_in}
use Rattle.catalog.specs.Pixels.{pixel_of_name}
use Rattle.translate_plan.specs.declared.options.Driver.{Driver}
use Rattle.translate_plan.specs.declared.options.Driver.TheVariants.{EHdr, Dted, SrtmHgt, AaiGrid, Vrt}
use Rattle.translate_plan.specs.declared.band.OutBand.{OutBand}
use Rattle.translate_plan.specs.Fits.{holds_name}
use Rattle.translate_plan.specs.Plan.{Planned}
use Rattle.write_back.specs.Plans.{IsNamedFor}
use Rattle.write_back.specs.View.{Output, is_writable, IsIn}

-- a folder has these files
abbrev pub HasFiles : Files → List (List ℕ × List ℕ) → Type 0
HasFiles m [] = Unit {0}
HasFiles m (f ∷ fs) = (get m f.0 ≡ Some f.1) × HasFiles m fs

-- the type that a driver's files are read in: the numbers of a grid are of Int32
abbrev pub kind_read : Driver → PixelType → PixelType
kind_read EHdr kind = kind
kind_read (Dted level) kind = kind
kind_read SrtmHgt kind = kind
kind_read AaiGrid kind = Int32
kind_read Vrt kind = kind

-- a band that is read is a plan's: it has its NODATA, and its type where the driver keeps it
pub record IsBandOf (driver : Driver) (b : OutBand) (c : BandHead) : Type 0 where
  pub kind_is : c.kind ≡ kind_read driver b.kind
  pub nodata_is : c.nodata ≡ b.nodata

-- the coordinates that the text of a grid writes, and the place that is read from them, stay below 10^12 units
abbrev pub IsReadBackBy : Driver → Planned → Type 0
IsReadBackBy EHdr p = Unit {0}
IsReadBackBy (Dted level) p = Unit {0}
IsReadBackBy SrtmHgt p = Unit {0}
IsReadBackBy AaiGrid p = (read : Transform) × IsReadAgain p.size (placing_of p.size p.geo) read
IsReadBackBy Vrt p = Unit {0}

-- what a name and a place must be for the files of a plan to be read again: the name's extension is one of the driver,
-- and that of a tile is its corner's name
pub record IsReadable (p : Planned) (name : List ℕ) : Type 0 where
  pub extension : IsNamedFor p name
  pub corner : holds_name p.driver name p.size p.geo ≡ true
  pub place : IsReadBackBy p.driver p

-- each sample of an output can be written
abbrev pub AreSamplesOf : Output → (ℕ → ℕ → ℕ → ℤ) → Type 0
AreSamplesOf o samples = (k x y : ℕ) → IsIn o k x y → is_writable o (samples k x y) ≡ true

-- a folder's files under a name are read as a plan's output: of its size, with its bands, and with these samples
pub record IsDecoded (m : Files) (verify : Bool) (name : List ℕ) (p : Planned) (samples : ℕ → ℕ → ℕ → ℤ) : Type 0 where
  pub head : DatasetHead
  pub accepted : head_in m verify name ≡ Ok head
  pub size_is : head.size ≡ p.size
  pub count_is : band_count head ≡ length p.bands
  pub bands_are : (k : ℕ) (b : OutBand) (c : BandHead) → slice_get p.bands k ≡ Some b →
      band_at head k ≡ Some c → IsBandOf p.driver b c
  pub pixels_are : (k x y : ℕ) → k < length p.bands → x < p.size.w → y < p.size.h →
      pixel_of_name m name k x y ≡ samples k x y
