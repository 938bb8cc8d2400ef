-- What a translation does, or why it can't be done.
use Rattle.std.specs.Prelude.{◌≡◌, ◌<◌, ◌≤◌, ℕ, ℤ, pos, ◌+ℤ◌, ◌+◌, ◌*◌, ◌/◌, Bool, true, ◌&&◌, List, length}
use Rattle.std.specs.Prelude.{All, IfSome, Option, Some, None, Result, Ok, Err, slice_get, get_or, int_le, int_lt}
use Rattle.std.specs.Prelude.{if◌then◌else◌, unsigned_abs}
use Rattle.std.specs.Option.{unwrap_or}
use Rattle.lists_and_answers.specs.Answers.{◌>>=◌}
use Rattle.geotransform.specs.Types.{is_in, clamp}
use Rattle.geotransform.specs.Geo.{Transform, IsRaster}
use Rattle.geotransform.specs.declared.types.Size.{Size}
use Rattle.geotransform.specs.declared.types.PixelType.{PixelType}
use Rattle.geotransform.specs.declared.types.PixelType.TheVariants.{Int16}
use Rattle.geotransform.specs.declared.faults.PlanFault.{PlanFault}
use Rattle.geotransform.specs.declared.faults.PlanFault.TheVariants.{Unfit}
use Rattle.esri_hdr.specs.declared.header_parts.Layout.{Layout}
use Rattle.esri_hdr.specs.Head as raw
use Rattle.esri_hdr.specs.Head.{plain_head}
use Rattle.vrt_profile.specs.Values.{IsDecimal}
use Rattle.catalog.specs.Dataset.{DatasetHead}
use Rattle.catalog.specs.Drivers.{null_elevation, void_sample}
use Rattle.translate_plan.specs.declared.options.Driver.{Driver}
use Rattle.translate_plan.specs.declared.options.Driver.TheVariants.{EHdr, Dted, SrtmHgt, AaiGrid, Vrt}
use Rattle.translate_plan.specs.declared.band.OutBand.{OutBand}
use Rattle.translate_plan.specs.declared.window.Window.{Window}
use Rattle.translate_plan.specs.Options.{Options, IsDriver}
use Rattle.translate_plan.specs.Window.{asked_in, window_in, inside_in, sides_of, size_in}
use Rattle.translate_plan.specs.Fits.{is_single, band_count_in, geo_in, place_in, raw_geo_in, holds_geo, holds_name}
use Rattle.translate_plan.specs.Fits.{takes_kind, holds_kinds, takes_nodata}
use Rattle.translate_plan.specs.Bands.{all_known, count_of, asked_bands, out_bands, no_out_band}
use Rattle.geotransform.specs.Limits.{most_bands, farthest}

-- the output's driver and layout, its size, bands and geotransform, and the window of the source that it shows
pub record Planned : Type 0 where
  pub driver : Driver
  pub layout : Layout
  pub bands : List OutBand
  pub size : Size
  pub x : ℤ
  pub y : ℤ
  pub window : Size
  pub geo : Option Transform

-- the driver can hold the output
abbrev pub fits : Options → List OutBand → Size → Option Transform → Bool
fits o bands size geo = (holds_geo o.driver size geo && holds_name o.driver o.out size geo) &&
    (takes_kind o.driver o.kind && (holds_kinds o.driver bands && takes_nodata o.driver o.nodata bands))

-- the refusal of an output that its driver can't hold
abbrev pub fits_in : Options → List OutBand → Size → Option Transform → Result (Unit {0}) PlanFault
fits_in o bands size geo = if fits o bands size geo then Ok tt else Err Unfit

-- what is planned where no check refuses
abbrev pub planned_by : Options → DatasetHead → Window → Size → Option Transform → Planned
planned_by o h v size geo = record {
  driver = o.driver;
  layout = o.layout;
  bands = out_bands o h;
  size = size;
  x = v.x;
  y = v.y;
  window = v.size;
  geo = geo;
}

-- what is planned, or the first refusal
unfoldable pub plan_of : Options → DatasetHead → Result Planned PlanFault
plan_of o h = do
  known ← all_known o.bands (length h.bands)
  asked ← asked_in o.view h.size h.geo
  v ← window_in asked
  inside ← inside_in o.epo o.eco v h.size
  size ← size_in (sides_of o.outsize v.size)
  few ← band_count_in o.driver (count_of o.bands (length h.bands))
  geo ← geo_in o.driver h.geo v size
  place ← place_in o.driver geo
  held ← fits_in o (asked_bands o h) size geo
  Ok (planned_by o h v size geo)

-- a band has a NODATA of its type
abbrev pub IsOutBand : OutBand → Type 0
IsOutBand b = IfSome b.nodata (λ n. is_in b.kind n ≡ true)

-- two bands have the same type and the same NODATA
pub record IsAlike (b c : OutBand) : Type 0 where
  pub kind : b.kind ≡ c.kind
  pub nodata : b.nodata ≡ c.nodata

-- what the bands of a driver's files have
abbrev pub BandsHold : Driver → List OutBand → Type 0
BandsHold EHdr bands = All (λ b. All (IsAlike b) bands) bands
BandsHold (Dted level) bands = All (λ b. (b.kind ≡ Int16) × (b.nodata ≡ Some null_elevation)) bands
BandsHold SrtmHgt bands = All (λ b. (b.kind ≡ Int16) × (b.nodata ≡ Some void_sample)) bands
BandsHold AaiGrid bands = holds_kinds AaiGrid bands ≡ true
BandsHold Vrt bands = Unit {0}

-- what each plan keeps: sizes, offsets and bands within their limits, each NODATA in its band's type, and that the
-- driver can hold them; the geotransform of a mosaic has 16 places
pub record IsPlan (p : Planned) : Type 0 where
  pub driver : IsDriver p.driver
  pub size : IsRaster p.size
  pub window : IsRaster p.window
  pub x : unsigned_abs p.x ≤ farthest
  pub y : unsigned_abs p.y ≤ farthest
  pub some_band : 0 < length p.bands
  pub bands : length p.bands ≤ most_bands
  pub single : is_single p.driver ≡ true → length p.bands ≤ 1
  pub each : All IsOutBand p.bands
  pub sources : All (λ b. b.source < most_bands) p.bands
  pub alike : BandsHold p.driver p.bands
  pub geo : holds_geo p.driver p.size p.geo ≡ true
  pub places : p.driver ≡ Vrt → IfSome p.geo IsDecimal

-- the first band
abbrev pub first_band : Planned → OutBand
first_band p = get_or p.bands 0 no_out_band

-- the head of raw data: its samples alone, in the layout, of the type and with the NODATA that all bands have
abbrev pub raw_head : Planned → raw.Head
raw_head p = plain_head p.size (length p.bands) (first_band p).kind p.layout (first_band p).nodata (raw_geo_in p.geo)

-- the column of the source that a column of the output shows, and the line that a line shows, counted from the window's
-- offset
abbrev pub shown : ℕ → ℕ → ℕ → ℕ
shown from to k = (2 * k + 1) * from / (2 * to)

-- the column of the source that a column of the output shows, which may be outside
abbrev pub shown_column : Planned → ℕ → ℤ
shown_column p i = p.x +ℤ pos (shown p.window.w p.size.w i)

-- the line of the source that a line of the output shows, which may be outside
abbrev pub shown_line : Planned → ℕ → ℤ
shown_line p j = p.y +ℤ pos (shown p.window.h p.size.h j)

-- a pixel lies in a raster
abbrev pub is_in_raster : Size → ℤ → ℤ → Bool
is_in_raster size x y = (int_le (pos 0) x && int_lt x (pos size.w)) && (int_le (pos 0) y && int_lt y (pos size.h))

-- the elevation that a record of a cell can hold and that is nearest to a number of Int16
abbrev pub elevation_near : ℤ → ℤ
elevation_near v = if int_lt v null_elevation then null_elevation else v

-- a sample in the type of its band, and for a cell in the elevations that records hold
abbrev pub held : Driver → PixelType → ℤ → ℤ
held EHdr kind v = clamp kind v
held (Dted level) kind v = elevation_near (clamp kind v)
held SrtmHgt kind v = clamp kind v
held AaiGrid kind v = clamp kind v
held Vrt kind v = clamp kind v

-- the pixel of one band of an output, by the source's size and its pixels by band, column and line
abbrev pub band_pixel : Planned → Size → (ℕ → ℕ → ℕ → ℤ) → OutBand → ℕ → ℕ → ℤ
band_pixel p source pixels b i j =
    if is_in_raster source (shown_column p i) (shown_line p j)
    then held p.driver b.kind (pixels b.source (unsigned_abs (shown_column p i)) (unsigned_abs (shown_line p j)))
    else unwrap_or b.nodata (pos 0)

-- the pixel of a band of an output, and 0 where there is no such band
abbrev pub pixel_in : Planned → Size → (ℕ → ℕ → ℕ → ℤ) → Option OutBand → ℕ → ℕ → ℤ
pixel_in p source pixels None i j = pos 0
pixel_in p source pixels (Some b) i j = band_pixel p source pixels b i j

-- pixel (i, j) of output band k
abbrev pub out_pixel : Planned → Size → (ℕ → ℕ → ℕ → ℤ) → ℕ → ℕ → ℕ → ℤ
out_pixel p source pixels k i j = pixel_in p source pixels (slice_get p.bands k) i j
