-- The report of a dataset, as one text of its head.
use Rattle.std.specs.Prelude.{ℕ, ℤ, pos, ◌+◌, List, [], ◌∷◌, ◌++◌, codes, Option, Some, None}
use Rattle.std.specs.List.{join_by}
use Rattle.std.specs.Fmt.{decimal, signed_decimal}
use Rattle.lists_and_answers.specs.Texts.{text}
use Rattle.geotransform.specs.Geo.{Transform, corner_of}
use Rattle.geotransform.specs.Print.{fixed_text}
use Rattle.geotransform.specs.Types.{name_of}
use Rattle.geotransform.specs.declared.types.Size.{Size}
use Rattle.catalog.specs.Dataset.{DatasetHead}
use Rattle.catalog.specs.declared.kind.BandHead.{BandHead}
use Rattle.catalog.specs.declared.kind.Kind.{Kind}
use Rattle.catalog.specs.declared.kind.Kind.TheVariants.{Raw, Dted, Hgt, Ascii, Vrt}

-- the driver of a kind
abbrev pub driver_of : Kind → List ℕ
driver_of Raw = codes "EHdr"
driver_of Dted = codes "DTED"
driver_of Hgt = codes "SRTMHGT"
driver_of Ascii = codes "AAIGrid"
driver_of Vrt = codes "VRT"

unfoldable pub driver_text : Kind → List ℕ
driver_text kind = text (codes "Driver: " ∷ driver_of kind ∷ codes "\n" ∷ [])

-- the files, each further one on a line of its own after seven spaces
unfoldable pub files_text : List (List ℕ) → List ℕ
files_text files = text (codes "Files: " ∷ join_by (λ name. name) (codes "\n       ") files ∷ codes "\n" ∷ [])

unfoldable pub size_text : Size → List ℕ
size_text size = text (codes "Size is " ∷ decimal size.w ∷ codes ", " ∷ decimal size.h ∷ codes "\n" ∷ [])

-- the text of the coordinate system on a line of its own, if there is one; it may be empty
unfoldable pub srs_text : Option (List ℕ) → List ℕ
srs_text None = []
srs_text (Some srs) = text (codes "Coordinate System is:\n" ∷ srs ∷ codes "\n" ∷ [])

-- a line with two numbers of so many places
unfoldable pub pair_text : List ℕ → ℕ → List ℕ → ℤ → ℤ → List ℕ
pair_text name places between x y = text (name ∷ fixed_text places x ∷ between ∷ fixed_text places y ∷ codes ")\n" ∷ [])

-- the line of a corner
abbrev pub corner_text : List ℕ → ℤ × ℤ → List ℕ
corner_text name place = pair_text name 9 (codes ", ") place.0 place.1

-- the corners of a raster; the last ones stand behind its last column and line
unfoldable pub corners_text : Transform → Size → List ℕ
corners_text g size = text (corner_text (codes "Upper Left  (") (corner_of g (pos 0) (pos 0))
    ∷ corner_text (codes "Lower Left  (") (corner_of g (pos 0) (pos size.h))
    ∷ corner_text (codes "Upper Right (") (corner_of g (pos size.w) (pos 0))
    ∷ corner_text (codes "Lower Right (") (corner_of g (pos size.w) (pos size.h))
    ∷ [])

-- the geotransform, if there is one
unfoldable pub geo_text : Option Transform → Size → List ℕ
geo_text None size = []
geo_text (Some g) size = text (pair_text (codes "Origin = (") 15 (codes ",") g.ox g.oy
    ∷ pair_text (codes "Pixel Size = (") 15 (codes ",") g.dx g.dy
    ∷ codes "Corner Coordinates:\n"
    ∷ corners_text g size
    ∷ [])

-- the NODATA of a band, if it has one
unfoldable pub nodata_text : Option ℤ → List ℕ
nodata_text None = []
nodata_text (Some value) = text (codes "  NoData Value=" ∷ signed_decimal value ∷ codes "\n" ∷ [])

-- the lines of a band
unfoldable pub band_text : ℕ → BandHead → List ℕ
band_text number band = text (codes "Band " ∷ decimal number ∷ codes " Block=" ∷ decimal band.block.w ∷ codes "x"
    ∷ decimal band.block.h ∷ codes " Type=" ∷ name_of band.kind ∷ codes "\n" ∷ nodata_text band.nodata ∷ [])

-- the lines of these bands, numbered from here on
abbrev pub bands_text : ℕ → List BandHead → List ℕ
bands_text number [] = []
bands_text number (band ∷ bands) = band_text number band ++ bands_text (number + 1) bands

-- the report
unfoldable pub info_text : DatasetHead → List ℕ
info_text head = text (driver_text head.kind
    ∷ files_text head.files
    ∷ size_text head.size
    ∷ srs_text head.srs
    ∷ geo_text head.geo head.size
    ∷ bands_text 1 head.bands
    ∷ [])
