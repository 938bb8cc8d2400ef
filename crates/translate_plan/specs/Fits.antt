-- What the driver of an output can hold.
use Rattle.std.specs.Prelude.{ℕ, ℤ, Bool, true, false, not, ◌&&◌, ◌||◌, ◌==◌, List, ◌++◌, codes, Option, Some}
use Rattle.std.specs.Prelude.{None, is_some, Result, Ok, Err, nat_lt, if◌then◌else◌}
use Rattle.std.specs.List.{list_all}
use Rattle.lists_and_answers.specs.Options.{◌>>=◌}
use Rattle.geotransform.specs.Types.{byte_count, highest, is_in, is_signed, lowest}
use Rattle.geotransform.specs.Places.{sixteen_places, are_same}
use Rattle.geotransform.specs.Geo.{Transform, is_north_up, sizes_held, transform_of, cut_of}
use Rattle.geotransform.specs.declared.types.Size.{Size}
use Rattle.geotransform.specs.declared.types.PixelType.{PixelType}
use Rattle.geotransform.specs.declared.types.PixelType.TheVariants.{Int32}
use Rattle.geotransform.specs.declared.faults.PlanFault.{PlanFault}
use Rattle.geotransform.specs.declared.faults.PlanFault.TheVariants.{NoGeo, Limit, BandCount}
use Rattle.lists_and_answers.specs.Texts.{same_letters}
use Rattle.outside.specs.Names.{last_part}
use Rattle.esri_hdr.specs.Head.{raw_geo_of}
use Rattle.esri_hdr.specs.declared.header_parts.RawGeo.{RawGeo}
use Rattle.dted_records.specs.Head as cells
use Rattle.dted_records.specs.Fit.{cell_of}
use Rattle.hgt_tiles.specs.Names as tiles
use Rattle.hgt_tiles.specs.Places.{tile_of}
use Rattle.catalog.specs.Drivers.{null_elevation, void_sample}
use Rattle.catalog.specs.declared.nodata.NodataWord.{NodataWord}
use Rattle.catalog.specs.declared.nodata.NodataWord.TheVariants.{Absent, Remove, Number}
use Rattle.translate_plan.specs.declared.options.Driver.{Driver}
use Rattle.translate_plan.specs.declared.options.Driver.TheVariants.{EHdr, Dted, SrtmHgt, AaiGrid, Vrt}
use Rattle.translate_plan.specs.declared.window.Window.{Window}
use Rattle.translate_plan.specs.declared.band.OutBand.{OutBand}
use Rattle.geotransform.specs.Limits.{most_bands}

-- the drivers whose files have one band
abbrev pub is_single : Driver → Bool
is_single EHdr = false
is_single (Dted level) = true
is_single SrtmHgt = true
is_single AaiGrid = true
is_single Vrt = false

-- the NODATA that a driver's files have by their format
abbrev pub own_nodata : Driver → Option ℤ
own_nodata EHdr = None
own_nodata (Dted level) = Some null_elevation
own_nodata SrtmHgt = Some void_sample
own_nodata AaiGrid = None
own_nodata Vrt = None

-- the number of bands is within the limit, and one where the driver's files have one
abbrev pub band_count_in : Driver → ℕ → Result (Unit {0}) PlanFault
band_count_in driver n =
    if nat_lt most_bands n then Err Limit else (if nat_lt 1 n && is_single driver then Err BandCount else Ok tt)

-- each number of a geotransform rounded to 16 places, where that is a geotransform
abbrev pub rounded : Transform → Option Transform
rounded g = transform_of (sixteen_places g.ox) (sixteen_places g.oy) (sixteen_places g.dx) (sixteen_places g.dy)

-- a document holds numbers of 16 places; other formats round themselves, or hold no number
abbrev pub rounded_for : Driver → Transform → Option Transform
rounded_for EHdr g = Some g
rounded_for (Dted level) g = Some g
rounded_for SrtmHgt g = Some g
rounded_for AaiGrid g = Some g
rounded_for Vrt g = rounded g

-- a geotransform that is lacking is past the limit
abbrev pub or_limit : Option Transform → Result (Option Transform) PlanFault
or_limit None = Err Limit
or_limit (Some g) = Ok (Some g)

-- the geotransform of the output: that of the source, cut to the window
abbrev pub geo_in : Driver → Option Transform → Window → Size → Result (Option Transform) PlanFault
geo_in driver None v size = Ok None
geo_in driver (Some g) v size = or_limit (cut_of g v.x v.y v.size size >>= rounded_for driver)

-- cells and tiles need a place
abbrev pub place_in : Driver → Option Transform → Result (Unit {0}) PlanFault
place_in driver geo = if is_some (own_nodata driver) && not (is_some geo) then Err NoGeo else Ok tt

-- what an ESRI header says of a geotransform, where there is one that it can hold
abbrev pub raw_geo_in : Option Transform → Option RawGeo
raw_geo_in None = None
raw_geo_in (Some g) = raw_geo_of g

-- the head of the cell of a level that a raster is
abbrev pub cell_in : ℕ → Size → Option Transform → Option cells.Head
cell_in level size None = None
cell_in level size (Some g) = cell_of level size g

-- the corner of a tile, where a raster is one
abbrev pub tile_in : Size → Option Transform → Option tiles.Place
tile_in size None = None
tile_in size (Some g) = tile_of size g

-- a driver can hold a geotransform, or none
abbrev pub holds_geo : Driver → Size → Option Transform → Bool
holds_geo EHdr size None = true
holds_geo EHdr size (Some g) = is_some (raw_geo_of g)
holds_geo (Dted level) size geo = is_some (cell_in level size geo)
holds_geo SrtmHgt size geo = is_some (tile_in size geo)
holds_geo AaiGrid size None = true
holds_geo AaiGrid size (Some g) = is_north_up g && sizes_held g
holds_geo Vrt size geo = true

-- the last part of a name is that of a tile, in upper or lower case
abbrev pub is_named : List ℕ → Option tiles.Place → Bool
is_named name None = false
is_named name (Some p) = same_letters (last_part name) (tiles.name_of p ++ codes ".hgt")

-- the name of a tile is that of its corner
abbrev pub holds_name : Driver → List ℕ → Size → Option Transform → Bool
holds_name EHdr name size geo = true
holds_name (Dted level) name size geo = true
holds_name SrtmHgt name size geo = is_named name (tile_in size geo)
holds_name AaiGrid name size geo = true
holds_name Vrt name size geo = true

abbrev pub is_int16 : PixelType → Bool
is_int16 kind = (byte_count kind == 2) && is_signed kind

-- whether each number of a type is one of Int32
abbrev pub is_within_int32 : PixelType → Bool
is_within_int32 kind = is_in Int32 (lowest kind) && is_in Int32 (highest kind)

-- the type that is asked for, if one is: cells and tiles are Int16
abbrev pub takes_kind : Driver → Option PixelType → Bool
takes_kind driver None = true
takes_kind driver (Some kind) = not (is_some (own_nodata driver)) || is_int16 kind

-- the types of the bands: grids hold numbers of Int32 alone, so no UInt32, UInt64 or Int64
abbrev pub holds_kinds : Driver → List OutBand → Bool
holds_kinds EHdr bands = true
holds_kinds (Dted level) bands = true
holds_kinds SrtmHgt bands = true
holds_kinds AaiGrid bands = list_all (λ b. is_within_int32 b.kind) bands
holds_kinds Vrt bands = true

-- a number that is asked for: that of the format, or one of all types
abbrev pub takes_number : Option ℤ → ℤ → List OutBand → Bool
takes_number (Some own) n bands = are_same n own
takes_number None n bands = list_all (λ b. is_in b.kind n) bands

-- the NODATA that is asked for
abbrev pub takes_nodata : Driver → NodataWord → List OutBand → Bool
takes_nodata driver Absent bands = true
takes_nodata driver Remove bands = not (is_some (own_nodata driver))
takes_nodata driver (Number n) bands = takes_number (own_nodata driver) n bands
