-- What a translation is asked for.
use Rattle.std.specs.Prelude.{◌<◌, ◌≤◌, ◌^◌, ℕ, ℤ, Bool, List, All, Option, IfSome, unsigned_abs}
use Rattle.geotransform.specs.Decimal.{IsRead}
use Rattle.geotransform.specs.declared.types.PixelType.{PixelType}
use Rattle.outside.specs.declared.name.Ext.{Ext}
use Rattle.outside.specs.declared.name.Ext.TheVariants as exts
use Rattle.esri_hdr.specs.declared.header_parts.Layout.{Layout}
use Rattle.catalog.specs.Nodata.{IsNodataWord}
use Rattle.catalog.specs.declared.nodata.NodataWord.{NodataWord}
use Rattle.translate_plan.specs.declared.options.Driver.{Driver}
use Rattle.translate_plan.specs.declared.options.Driver.TheVariants as drivers
use Rattle.translate_plan.specs.declared.options.View.{View}
use Rattle.translate_plan.specs.declared.options.View.TheVariants as views
use Rattle.translate_plan.specs.declared.options.OutSize.{OutSize}
use Rattle.translate_plan.specs.declared.options.OutSize.TheVariants as sizes
use Rattle.geotransform.specs.Limits.{most_bands, most_short_digits}

-- the driver, the layout of raw data, the name and the bands of the output, counted from 1, the window, the size, the
-- NODATA, the type, and whether the window may leave the raster in part or as a whole
pub record Options : Type 0 where
  pub driver : Driver
  pub layout : Layout
  pub out : List ℕ
  pub bands : List ℕ
  pub view : View
  pub outsize : Option (OutSize × OutSize)
  pub nodata : NodataWord
  pub kind : Option PixelType
  pub epo : Bool
  pub eco : Bool

-- a driver of cells has a level from 0 to 2
abbrev pub IsDriver : Driver → Type 0
IsDriver drivers.EHdr = Unit {0}
IsDriver (drivers.Dted level) = level ≤ 2
IsDriver drivers.SrtmHgt = Unit {0}
IsDriver drivers.AaiGrid = Unit {0}
IsDriver drivers.Vrt = Unit {0}

-- the driver that writes files of an extension
abbrev pub driver_for : Ext → Driver
driver_for exts.Bil = drivers.EHdr
driver_for exts.Bip = drivers.EHdr
driver_for exts.Bsq = drivers.EHdr
driver_for exts.Dt0 = drivers.Dted 0
driver_for exts.Dt1 = drivers.Dted 1
driver_for exts.Dt2 = drivers.Dted 2
driver_for exts.Hgt = drivers.SrtmHgt
driver_for exts.Asc = drivers.AaiGrid
driver_for exts.Grd = drivers.AaiGrid
driver_for exts.Vrt = drivers.Vrt

-- a number of up to nine digits
abbrev pub IsShortNumber : ℤ → Type 0
IsShortNumber n = unsigned_abs n < 10 ^ most_short_digits

-- pixels are whole numbers of up to nine digits, places are numbers that were read
abbrev pub IsView : View → Type 0
IsView views.Whole = Unit {0}
IsView (views.Pixels x y w h) = IsShortNumber x × IsShortNumber y × IsShortNumber w × IsShortNumber h
IsView (views.Places ulx uly lrx lry) = IsRead ulx × IsRead uly × IsRead lrx × IsRead lry

-- a number of up to nine digits
abbrev pub IsOutSize : OutSize → Type 0
IsOutSize (sizes.Count n) = n < 10 ^ most_short_digits
IsOutSize (sizes.Percent n) = n < 10 ^ most_short_digits

-- the ranges in which the values of words are
pub record IsOptions (o : Options) : Type 0 where
  pub driver : IsDriver o.driver
  pub bands : All (λ b. (0 < b) × (b ≤ most_bands)) o.bands
  pub view : IsView o.view
  pub outsize : IfSome o.outsize (λ s. IsOutSize s.0 × IsOutSize s.1)
  pub nodata : IsNodataWord o.nodata
