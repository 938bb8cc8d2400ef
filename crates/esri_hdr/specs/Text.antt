-- The text of a header that is written.
use Rattle.std.specs.Prelude.{ℕ, ℤ, ◌-◌, ◌*◌, Bool, List, [], ◌∷◌, ◌++◌, length, Option, Some, None, if◌then◌else◌}
use Rattle.std.specs.Prelude.{codes, get_or, replicate}
use Rattle.std.specs.Fmt.{decimal, signed_decimal}
use Rattle.lists_and_answers.specs.Bytes.{line_feed, space_byte}
use Rattle.geotransform.specs.Print.{short_text}
use Rattle.geotransform.specs.declared.types.PixelType.{PixelType}
use Rattle.geotransform.specs.Types.{is_signed}
use Rattle.esri_hdr.specs.declared.header_parts.Layout.{Layout}
use Rattle.esri_hdr.specs.declared.header_parts.Layout.TheVariants.{Bil, Bip, Bsq}
use Rattle.esri_hdr.specs.declared.header_parts.RawGeo.{RawGeo}
use Rattle.esri_hdr.specs.Keys.{names}
use Rattle.esri_hdr.specs.Keys as keys
use Rattle.esri_hdr.specs.Head.{Head, sample_len}

-- the name of a key
abbrev pub name_of : ℕ → List ℕ
name_of key = get_or names key []

-- a key's name, filled with spaces to 15 columns, and its value
abbrev pub content_of : ℕ → List ℕ → List ℕ
content_of key value = name_of key ++ (replicate (15 - length (name_of key)) space_byte ++ value)

-- a line for each key and value, which ends with a line feed
abbrev pub lines_text_of : List (ℕ × List ℕ) → List ℕ
lines_text_of [] = []
lines_text_of (field ∷ more) = content_of field.0 field.1 ++ line_feed ∷ lines_text_of more

-- the value of BYTEORDER
abbrev pub order_text : Bool → List ℕ
order_text big = if big then codes "M" else codes "I"

-- the value of LAYOUT
abbrev pub layout_text : Layout → List ℕ
layout_text Bil = codes "BIL"
layout_text Bip = codes "BIP"
layout_text Bsq = codes "BSQ"

-- the value of PIXELTYPE
abbrev pub sign_text : PixelType → List ℕ
sign_text kind = if is_signed kind then codes "SIGNEDINT" else codes "UNSIGNEDINT"

-- NODATA, where there is one
abbrev pub nodata_fields : Option ℤ → List (ℕ × List ℕ)
nodata_fields None = []
nodata_fields (Some n) = (keys.nodata, signed_decimal n) ∷ []

-- the centre and the sizes of the first pixel, where there are any
abbrev pub geo_fields : Option RawGeo → List (ℕ × List ℕ)
geo_fields None = []
geo_fields (Some g) = (keys.ulxmap, short_text g.ulx) ∷ (keys.ulymap, short_text g.uly) ∷ (keys.xdim, short_text g.xdim)
    ∷ (keys.ydim, short_text g.ydim) ∷ []

-- the first four lines
abbrev pub layout_fields : Head → List (ℕ × List ℕ)
layout_fields h = (keys.byteorder, order_text h.big) ∷ (keys.layout, layout_text h.layout)
    ∷ (keys.nrows, decimal h.size.h) ∷ (keys.ncols, decimal h.size.w) ∷ []

-- the next three
abbrev pub sample_fields : Head → List (ℕ × List ℕ)
sample_fields h = (keys.nbands, decimal h.bands) ∷ (keys.nbits, decimal (8 * sample_len h.kind))
    ∷ (keys.skipbytes, decimal h.skip) ∷ []

-- the last four that always stand
abbrev pub row_fields : Head → List (ℕ × List ℕ)
row_fields h = (keys.bandrowbytes, decimal h.band_row) ∷ (keys.totalrowbytes, decimal h.total_row)
    ∷ (keys.bandgapbytes, decimal h.gap) ∷ (keys.pixeltype, sign_text h.kind) ∷ []

-- the lines of a head with this NODATA and this centre
abbrev pub fields_from : Head → Option ℤ → Option RawGeo → List (ℕ × List ℕ)
fields_from h nodata geo =
    layout_fields h ++ (sample_fields h ++ (row_fields h ++ (nodata_fields nodata ++ geo_fields geo)))

-- the lines of a head
abbrev pub fields_of : Head → List (ℕ × List ℕ)
fields_of h = fields_from h h.nodata h.geo

-- the text that is written of a head
unfoldable pub hdr_text : Head → List ℕ
hdr_text h = lines_text_of (fields_of h)
