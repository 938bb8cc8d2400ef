-- What is planned meets what each writer asks for.
use Rattle.std.proofs.Common.{◌≡◌, ℕ, true, false, Bool, refl, sym, subst, Option, Some, None}
use Rattle.std.specs.Prelude.{◌&&◌, IfSome, is_some, length, slice_get}
use Rattle.std.proofs.lemmas.Option.{get_or_from_slice_get}
use Rattle.geotransform.specs.Geo.{Transform, is_north_up, sizes_held}
use Rattle.esri_hdr.specs.Head.{IsHead, GeoFits}
use Rattle.esri_hdr.proofs.Heads.{held_fits, plain_is_head}
use Rattle.translate_plan.specs.declared.options.Driver.{Driver}
use Rattle.translate_plan.specs.declared.options.Driver.TheVariants.{Dted, SrtmHgt, AaiGrid}
use Rattle.translate_plan.specs.Fits.{raw_geo_in, cell_in, tile_in, holds_geo}
use Rattle.translate_plan.specs.Bands.{no_out_band}
use Rattle.translate_plan.specs.Plan.{Planned, IsOutBand, IsPlan, first_band, raw_head}
use Rattle.translate_plan.specs.declared.band.OutBand.{OutBand}

both : (a b : Bool) → a && b ≡ true → (a ≡ true) × (b ≡ true)
both true b h = (refl, h)
both false b h = absurd cc

raw_fits : (geo : Option Transform) → IfSome (raw_geo_in geo) GeoFits
raw_fits None = tt
raw_fits (Some g) = held_fits g

-- the first band, and that its NODATA is of its type
pub first_is : (p : Planned) (b : OutBand) → slice_get p.bands 0 ≡ Some b → b ≡ first_band p
first_is p b e = sym (get_or_from_slice_get p.bands 0 b no_out_band e)

pub first_fits : (p : Planned) → IsPlan p → IsOutBand (first_band p)
first_fits p plan = plan.each 0 no_out_band plan.some_band

-- the head of raw data is one
pub raw_is_head : (p : Planned) → IsPlan p → IsHead (raw_head p)
raw_is_head p plan = plain_is_head p.size (length p.bands) (first_band p).kind p.layout (first_band p).nodata (raw_geo_in p.geo) plan.size plan.some_band plan.bands (first_fits p plan) (raw_fits p.geo)

held_by : (p : Planned) (driver : Driver) → IsPlan p → p.driver ≡ driver → holds_geo driver p.size p.geo ≡ true
held_by p driver plan is = subst (λ d. holds_geo d p.size p.geo ≡ true) is plan.geo

-- the geotransform of a grid runs from north to south, and its sizes can be held
pub grid_sizes : (p : Planned) (g : Transform) → IsPlan p → p.driver ≡ AaiGrid → p.geo ≡ Some g → (is_north_up g ≡ true) × (sizes_held g ≡ true)
grid_sizes p g plan is e = both (is_north_up g) (sizes_held g) (subst (λ m. holds_geo AaiGrid p.size m ≡ true) e (held_by p AaiGrid plan is))

-- the raster is a cell of its level
pub cell_is : (p : Planned) (level : ℕ) → IsPlan p → p.driver ≡ Dted level → is_some (cell_in level p.size p.geo) ≡ true
cell_is p level plan is = held_by p (Dted level) plan is

-- the raster is a tile
pub tile_is : (p : Planned) → IsPlan p → p.driver ≡ SrtmHgt → is_some (tile_in p.size p.geo) ≡ true
tile_is p plan is = held_by p SrtmHgt plan is
