-- What is told of a place in a raster.
use Rattle.std.specs.Prelude.{ℕ, ℤ, List, [], ◌∷◌, ◌++◌, codes, Option, Some, None, flat_map}
use Rattle.std.specs.Fmt.{decimal, signed_decimal}
use Rattle.lists_and_answers.specs.Texts.{text}
use Rattle.location_report.specs.declared.report.Form.{Form}
use Rattle.location_report.specs.declared.report.Form.TheVariants.{Report, ValuesOnly, FilesOnly}

-- a value on a line
unfoldable pub value_text : ℤ → List ℕ
value_text value = text (signed_decimal value ∷ codes "\n" ∷ [])

unfoldable pub values_text : List ℤ → List ℕ
values_text values = flat_map value_text values

-- the lines of a band, which has this number
unfoldable pub band_text : ℕ → ℤ → List ℕ
band_text number value =
    text (codes "  Band " ∷ decimal number ∷ codes ":\n    Value: " ∷ signed_decimal value ∷ codes "\n" ∷ [])

-- the lines of the bands with these numbers and these values
abbrev pub bands_text : List ℕ → List ℤ → List ℕ
bands_text [] values = []
bands_text (number ∷ numbers) [] = []
bands_text (number ∷ numbers) (value ∷ values) = band_text number value ++ bands_text numbers values

-- the names of files, one on a line
unfoldable pub files_text : List (List ℕ) → List ℕ
files_text names = flat_map (λ name. text (name ∷ codes "\n" ∷ [])) names

-- the column and the line
unfoldable pub place_text : ℤ → ℤ → List ℕ
place_text x y =
    text (codes "Report:\n  Location: (" ∷ signed_decimal x ∷ codes "P," ∷ signed_decimal y ∷ codes "L)\n" ∷ [])

-- the report on a place, which has no values off the raster
unfoldable pub report_text : ℤ → ℤ → Option (List ℤ) → List ℕ → List ℕ
report_text x y None bands =
    text (place_text x y ∷ codes "  Location is off this file! No further details to report.\n" ∷ [])
report_text x y (Some values) bands = text (place_text x y ∷ bands_text bands values ∷ [])

-- the values alone, and an empty line off the raster
unfoldable pub only_text : Option (List ℤ) → List ℕ
only_text None = codes "\n"
only_text (Some values) = values_text values

-- what a form tells of column x, line y, of the values of these bands there and of these files
unfoldable pub location_text : Form → ℤ → ℤ → Option (List ℤ) → List ℕ → List (List ℕ) → List ℕ
location_text Report x y values bands files = report_text x y values bands
location_text ValuesOnly x y values bands files = only_text values
location_text FilesOnly x y values bands files = files_text files
