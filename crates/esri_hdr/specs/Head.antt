-- The head that a header's text gives, or its first fault.
use Rattle.std.specs.Prelude.{◌≡◌, ◌<◌, ◌≤◌, IfSome, ℕ, ℤ, pos, neg_ℤ, ◌+ℤ◌, ◌-ℤ◌, ◌*ℤ◌, ◌*◌, ◌/◌, Bool, true, ok_or}
use Rattle.std.specs.Prelude.{false, ◌&&◌, List, length, Option, Some, None, Result, Ok, Err, nat_lt, if◌then◌else◌}
use Rattle.std.specs.Prelude.{unsigned_abs, int_lt}
use Rattle.std.specs.Option.{option_map}
use Rattle.lists_and_answers.specs.Answers.{◌>>=◌}
use Rattle.geotransform.specs.Decimal.{ticks_of, whole_of, IsRead}
use Rattle.geotransform.specs.Print.{unit}
use Rattle.geotransform.specs.Types.{is_in, byte_count, when_in}
use Rattle.geotransform.specs.Places.{half, sixteen_places}
use Rattle.geotransform.specs.Geo.{Transform, is_near, is_north_up, sizes_held}
use Rattle.geotransform.specs.declared.types.Size.{Size}
use Rattle.geotransform.specs.declared.types.PixelType.{PixelType}
use Rattle.esri_hdr.specs.declared.header_parts.HdrFault.{HdrFault}
use Rattle.esri_hdr.specs.declared.header_parts.HdrFault.TheVariants.{MissingKey, BadValue, Limit}
use Rattle.esri_hdr.specs.declared.header_parts.Layout.{Layout}
use Rattle.esri_hdr.specs.declared.header_parts.Layout.TheVariants.{Bil, Bip, Bsq}
use Rattle.esri_hdr.specs.declared.header_parts.RawGeo.{RawGeo}
use Rattle.esri_hdr.specs.declared.header_parts.Shape.{Shape}
use Rattle.esri_hdr.specs.declared.header_parts.Rows.{Rows}
use Rattle.esri_hdr.specs.Lines.{Values, last_in_text}
use Rattle.esri_hdr.specs.Values.{side_in, bands_in, bits_in, big_endian_in, layout_in, skip_in, signed_in}
use Rattle.esri_hdr.specs.Values.{type_of_bits}
use Rattle.esri_hdr.specs.Values.{band_row_in, total_row_in, gap_in, BandRowFits, TotalRowFits, GapFits, longest_gap}
use Rattle.esri_hdr.specs.Keys as keys
use Rattle.geotransform.specs.Limits.{most_bands, most_side, unit_limit}

-- ULXMAP, ULYMAP
unfoldable pub place_in : Option (List ℕ) → Result (Option ℤ) HdrFault
place_in None = Ok None
place_in (Some text) = do
  v ← ok_or (ticks_of text) BadValue
  Ok (Some v)

-- XDIM, YDIM
unfoldable pub step_in : Option (List ℕ) → Result ℤ HdrFault
step_in None = Ok (pos unit)
step_in (Some text) = do
  v ← ok_or (ticks_of text) BadValue
  if int_lt (pos 0) v then Ok v else Err BadValue

-- whether the half of so many ticks is below 10^12 units in magnitude
abbrev pub is_half_near : ℤ → Bool
is_half_near twice = nat_lt (unsigned_abs twice) (2 * (unit_limit * unit))

-- the centre and the sizes of the first pixel, where both its coordinates stand; its outer corner stays below 10^12
-- units
unfoldable pub geo_in : Option ℤ → Option ℤ → ℤ → ℤ → Result (Option RawGeo) HdrFault
geo_in None uly xdim ydim = Ok None
geo_in (Some ulx) None xdim ydim = Ok None
geo_in (Some ulx) (Some uly) xdim ydim = if is_half_near (ulx +ℤ ulx -ℤ xdim) && is_half_near (uly +ℤ uly +ℤ ydim)
    then Ok (Some (record { ulx = ulx; uly = uly; xdim = xdim; ydim = ydim })) else Err BadValue

-- NODATA, any text
unfoldable pub nodata_in : PixelType → Option (List ℕ) → Option ℤ
nodata_in kind None = None
nodata_in kind (Some text) = when_in kind (whole_of text)

-- the keys from NROWS to PIXELTYPE
unfoldable pub shape_of : Values → Result Shape HdrFault
shape_of value = do
  rows ← ok_or (value keys.nrows) MissingKey
  cols ← ok_or (value keys.ncols) MissingKey
  h ← side_in rows
  w ← side_in cols
  bands ← bands_in (value keys.nbands)
  bits ← bits_in (value keys.nbits)
  big ← big_endian_in (value keys.byteorder)
  layout ← layout_in (value keys.layout)
  skip ← skip_in (value keys.skipbytes)
  signed ← signed_in bits (value keys.pixeltype) (value keys.nodata)
  Ok (record { w = w; h = h; bands = bands; bits = bits; big = big; layout = layout; skip = skip; signed = signed })

-- the bytes of a row of one band
abbrev pub row_len : Shape → ℕ
row_len s = s.w * (s.bits / 8)

-- the keys from BANDROWBYTES to BANDGAPBYTES
unfoldable pub row_keys_of : Shape → Values → Result Rows HdrFault
row_keys_of s value = do
  band_row ← band_row_in s.layout (row_len s) (value keys.bandrowbytes)
  total_row ← total_row_in s.layout s.bands (row_len s) band_row (value keys.totalrowbytes)
  gap ← gap_in s.layout (value keys.bandgapbytes)
  Ok (record { band_row = band_row; total_row = total_row; gap = gap })

-- the keys from ULXMAP to YDIM
unfoldable pub geo_of : Values → Result (Option RawGeo) HdrFault
geo_of value = do
  ulx ← place_in (value keys.ulxmap)
  uly ← place_in (value keys.ulymap)
  xdim ← step_in (value keys.xdim)
  ydim ← step_in (value keys.ydim)
  geo_in ulx uly xdim ydim

-- what a head holds
pub record Head : Type 0 where
  pub size : Size
  pub bands : ℕ
  pub kind : PixelType
  pub big : Bool
  pub layout : Layout
  pub skip : ℕ
  pub band_row : ℕ
  pub total_row : ℕ
  pub gap : ℕ
  pub nodata : Option ℤ
  pub geo : Option RawGeo

-- the head of what the keys say
abbrev pub head_from : Shape → Rows → Option RawGeo → Option (List ℕ) → Head
head_from s r geo nodata = record {
  size = record {
    w = s.w;
    h = s.h;
  };
  bands = s.bands;
  kind = type_of_bits s.bits s.signed;
  big = s.big;
  layout = s.layout;
  skip = s.skip;
  band_row = r.band_row;
  total_row = r.total_row;
  gap = r.gap;
  nodata = nodata_in (type_of_bits s.bits s.signed) nodata;
  geo = geo;
}

-- the head that the values of the keys give, or the first fault
unfoldable pub head_of : Values → Result Head HdrFault
head_of value = do
  s ← shape_of value
  r ← row_keys_of s value
  geo ← geo_of value
  Ok (head_from s r geo (value keys.nodata))

-- the greatest length of a header, in bytes
abbrev pub longest_header : ℕ
longest_header = 1048576

-- the head that a text gives, or the first fault
unfoldable pub esri_head : List ℕ → Result Head HdrFault
esri_head text = if nat_lt longest_header (length text) then Err Limit else head_of (last_in_text text)

-- the bytes of a sample
abbrev pub sample_len : PixelType → ℕ
sample_len kind = byte_count kind

-- the rules of the row lengths and the gap, by the layout, the number of bands and the bytes of a band's row
abbrev pub RowsFit : Layout → ℕ → ℕ → Rows → Type 0
RowsFit layout bands row r = BandRowFits layout row r.band_row × TotalRowFits layout bands row r.band_row r.total_row ×
    GapFits layout r.gap

-- the rules of the centre and the sizes of a pixel
pub record GeoFits (g : RawGeo) : Type 0 where
  pub ulx : IsRead g.ulx
  pub uly : IsRead g.uly
  pub xdim : IsRead g.xdim
  pub ydim : IsRead g.ydim
  pub wide : int_lt (pos 0) g.xdim ≡ true
  pub high : int_lt (pos 0) g.ydim ≡ true
  pub left : is_half_near (g.ulx +ℤ g.ulx -ℤ g.xdim) ≡ true
  pub top : is_half_near (g.uly +ℤ g.uly +ℤ g.ydim) ≡ true

-- a width or a height
abbrev pub IsSide : ℕ → Type 0
IsSide n = (0 < n) × (n ≤ most_side)

-- the rules of a head
pub record IsHead (h : Head) : Type 0 where
  pub width : IsSide h.size.w
  pub height : IsSide h.size.h
  pub bands : (0 < h.bands) × (h.bands ≤ most_bands)
  pub skip : h.skip ≤ longest_gap
  pub rows : RowsFit h.layout h.bands (h.size.w * sample_len h.kind) (record {
    band_row = h.band_row;
    total_row = h.total_row;
    gap = h.gap;
  })
  pub nodata : IfSome h.nodata (λ n. is_in h.kind n ≡ true)
  pub geo : IfSome h.geo GeoFits

-- half of a size of a pixel, which is above 0 and even
abbrev pub half_of : ℤ → ℤ
half_of size = pos (unsigned_abs size / 2)

-- the geotransform of the pixel whose centre and sizes these are
abbrev pub placed : RawGeo → Transform
placed g = record { ox = g.ulx -ℤ half_of g.xdim; oy = g.uly +ℤ half_of g.ydim; dx = g.xdim; dy = neg_ℤ g.ydim }

-- the geotransform of a head that has the centre of its first pixel
abbrev pub geotransform_of : Head → Option Transform
geotransform_of h = option_map placed h.geo

-- the centre of the first pixel and the sizes of a pixel of a geotransform, each rounded to 16 places; the half of a
-- tick is rounded with the rest
abbrev pub raw_geo : Transform → RawGeo
raw_geo g = record {
  ulx = pos 18 *ℤ half (pos 2 *ℤ g.ox +ℤ g.dx) 36;
  uly = pos 18 *ℤ half (pos 2 *ℤ g.oy +ℤ g.dy) 36;
  xdim = sixteen_places g.dx;
  ydim = sixteen_places (neg_ℤ g.dy);
}

-- a header can hold the centre, and the outer corner that is computed from it
abbrev pub is_origin : RawGeo → Bool
is_origin r = (is_near r.ulx && is_near r.uly) && (is_half_near (r.ulx +ℤ r.ulx -ℤ r.xdim) &&
    is_half_near (r.uly +ℤ r.uly +ℤ r.ydim))

-- a header can hold a geotransform: it runs from west to east and from north to south, and its sizes and its origin can
-- be held
abbrev pub holds_transform : Transform → Bool
holds_transform g = is_north_up g && (sizes_held g && is_origin (raw_geo g))

-- what a header says of a geotransform, where it can hold it
abbrev pub raw_geo_of : Transform → Option RawGeo
raw_geo_of g = if holds_transform g then Some (raw_geo g) else None

-- the bytes of a line of all bands that has no padding
abbrev pub plain_row : Layout → ℕ → ℕ → ℕ
plain_row Bil bands row = bands * row
plain_row Bip bands row = row * bands
plain_row Bsq bands row = row

-- the head of a raster whose file has its samples alone, with the byte that counts least in front
abbrev pub plain_head : Size → ℕ → PixelType → Layout → Option ℤ → Option RawGeo → Head
plain_head size bands kind layout nodata geo = record {
  size = size;
  bands = bands;
  kind = kind;
  big = false;
  layout = layout;
  skip = 0;
  band_row = size.w * sample_len
      kind;
  total_row = plain_row layout bands (size.w * sample_len kind);
  gap = 0;
  nodata = nodata;
  geo = geo;
}
