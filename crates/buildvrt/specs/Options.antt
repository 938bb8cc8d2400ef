-- What a mosaic is asked for.
use Rattle.std.specs.Prelude.{ℕ, ℤ, pos, ◌<◌, ◌≤◌, ◌<ℤ◌, Bool, List, Option, IfSome}
use Rattle.std.specs.List.{All}
use Rattle.geotransform.specs.Geo.{IsNear}
use Rattle.buildvrt.specs.declared.options.Resolution.{Resolution}
use Rattle.buildvrt.specs.declared.options.Resolution.TheVariants.{Highest, Lowest, Average, User}
use Rattle.buildvrt.specs.declared.options.Extent.{Extent}
use Rattle.catalog.specs.Nodata.{IsNodataWord}
use Rattle.catalog.specs.declared.nodata.NodataWord.{NodataWord}
use Rattle.geotransform.specs.Limits.{most_bands}

-- what a mosaic of inputs is asked for, by its options
pub record Options : Type 0 where
  -- the name of the document that the mosaic is for
  pub out : List ℕ
  -- the chosen bands, counted from 1; all where none is chosen
  pub bands : List ℕ
  pub resolution : Resolution
  pub extent : Option Extent
  pub src_nodata : NodataWord
  pub vrt_nodata : NodataWord
  pub separate : Bool
  pub strict : Bool

-- a size of a pixel that is given: above 0 and below 10^12 units
pub record IsGivenStep (v : ℤ) : Type 0 where
  pub above : pos 0 <ℤ v
  pub near : IsNear v

-- what a resolution keeps: given pixel sizes are in their limits
abbrev pub IsResolution : Resolution → Type 0
IsResolution Highest = Unit {0}
IsResolution Lowest = Unit {0}
IsResolution Average = Unit {0}
IsResolution (User dx dy) = IsGivenStep dx × IsGivenStep dy

-- an extent that is given: not empty, and its places are below 10^12 units in magnitude
pub record IsExtent (e : Extent) : Type 0 where
  pub xmin : IsNear e.xmin
  pub ymin : IsNear e.ymin
  pub xmax : IsNear e.xmax
  pub ymax : IsNear e.ymax
  pub columns : e.xmin <ℤ e.xmax
  pub lines : e.ymin <ℤ e.ymax

-- a number of a band
pub record IsBandNumber (n : ℕ) : Type 0 where
  pub from_one : 0 < n
  pub few : n ≤ most_bands

-- what the options keep
pub record IsOptions (o : Options) : Type 0 where
  pub bands : All IsBandNumber o.bands
  pub resolution : IsResolution o.resolution
  pub extent : IfSome o.extent IsExtent
  pub src_nodata : IsNodataWord o.src_nodata
  pub vrt_nodata : IsNodataWord o.vrt_nodata
