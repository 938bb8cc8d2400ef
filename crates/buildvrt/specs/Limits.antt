-- The limits that the parts of a mosaic keep while it is made.
use Rattle.std.specs.Prelude.{pos, ◌<ℤ◌, ℕ, ◌^◌, ℤ, ◌<◌, unsigned_abs, ◌*◌, List, ◌++◌, Result, Ok, Err, ◌≤◌, length}
use Rattle.std.specs.Prelude.{◌≡◌, true}
use Rattle.geotransform.specs.Geo.{IsTransform, IsNear}
use Rattle.geotransform.specs.Limits.{most_bands}
use Rattle.vrt_profile.specs.Values.{BandValue, source_count, most_sources}
use Rattle.catalog.specs.Dataset.{IsDatasetHead}
use Rattle.buildvrt.specs.Tiles.{TileValue}
use Rattle.buildvrt.specs.Options.{IsGivenStep, Options}
use Rattle.buildvrt.specs.declared.grid.Measure.{Measure}
use Rattle.buildvrt.specs.declared.grid.Measure.TheVariants.{ColumnStep, LineStep, Left, Right, Top, Bottom}
use Rattle.buildvrt.specs.Grids.{IsStep}
use Rattle.buildvrt.specs.declared.options.Extent.{Extent}
use Rattle.buildvrt.specs.declared.patch.PixelRect.{PixelRect}
use Rattle.buildvrt.specs.declared.faults.BuildFault.{BuildFault}
use Rattle.buildvrt.specs.Rectangles.{PatchValue}
use Rattle.buildvrt.specs.Judging.{reference_of, has_bands}

-- its columns go east and its lines go south
pub record IsTile (t : TileValue) : Type 0 where
  pub head : IsDatasetHead t.head
  pub place : IsTransform t.place
  pub east : pos 0 <ℤ t.place.dx
  pub south : t.place.dy <ℤ pos 0

-- far edges stay below so many ticks in magnitude
abbrev pub edge_limit : ℕ
edge_limit = 10 ^ 36

-- what the numbers of an input keep: a side is above 0 and below 10^12 units, its place is below 10^12 units in
-- magnitude, and its far edges lie at most 4,194,304 such sides away
abbrev pub IsMeasure : Measure → ℤ → Type 0
IsMeasure ColumnStep v = IsGivenStep v
IsMeasure LineStep v = IsGivenStep v
IsMeasure Left v = IsNear v
IsMeasure Right v = unsigned_abs v < edge_limit
IsMeasure Top v = IsNear v
IsMeasure Bottom v = unsigned_abs v < edge_limit

-- the sides of pixels
abbrev pub IsSide : Measure → Type 0
IsSide ColumnStep = Unit {0}
IsSide LineStep = Unit {0}
IsSide Left = ⊥
IsSide Right = ⊥
IsSide Top = ⊥
IsSide Bottom = ⊥

pub record IsSteps (steps : ℤ × ℤ) : Type 0 where
  pub column : IsStep steps.0
  pub line : IsStep steps.1

-- what an extent keeps, a given one or a union
pub record IsReach (e : Extent) : Type 0 where
  pub left : IsNear e.xmin
  pub top : IsNear e.ymax
  pub right : unsigned_abs e.xmax < edge_limit
  pub bottom : unsigned_abs e.ymin < edge_limit

-- places and sides of a rectangle of pixels stay below it in magnitude
abbrev pub pixel_limit : ℕ
pixel_limit = 3 * 10 ^ 37

-- what is known of a rectangle of pixels
pub record IsPixelRect (r : PixelRect) : Type 0 where
  pub left : unsigned_abs r.x < pixel_limit
  pub top : unsigned_abs r.y < pixel_limit
  pub some_width : pos 0 <ℤ r.w
  pub some_height : pos 0 <ℤ r.h
  pub width : unsigned_abs r.w < pixel_limit
  pub height : unsigned_abs r.h < pixel_limit

-- these rectangles before those that are still made
abbrev pub then_patches : List PatchValue → Result (List PatchValue) BuildFault → Result (List PatchValue) BuildFault
then_patches before (Ok patches) = Ok (before ++ patches)
then_patches before (Err fault) = Err fault

-- bands that a document may have
pub record FitsDocument (bands : List BandValue) : Type 0 where
  pub some : 0 < length bands
  pub few : length bands ≤ most_bands
  pub sources : source_count bands ≤ most_sources

-- the reference has each chosen band
pub record HasReference (o : Options) (tiles : List TileValue) : Type 0 where
  pub has : (t : TileValue) → reference_of tiles ≡ Ok t → has_bands t.head o.bands ≡ true
