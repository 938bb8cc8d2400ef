-- What gdallocationinfo prints of points.
use Rattle.std.specs.Prelude.{ℕ, ℤ, pos, ◌+◌, ◌-◌, Bool, true, false, List, [], ◌∷◌, map, nat_lt, Option, Some, None}
use Rattle.std.specs.Prelude.{Result, Ok, Err}
use Rattle.std.specs.List.{range_with_len, find}
use Rattle.lists_and_answers.specs.Answers.{◌>>=◌}
use Rattle.geotransform.specs.Geo.{Transform, located}
use Rattle.geotransform.specs.Print.{unit}
use Rattle.geotransform.specs.Places.{floor_of}
use Rattle.geotransform.specs.declared.faults.PlanFault.TheVariants.{NoBand, NoGeo}
use Rattle.geotransform.specs.Pixels.{within}
use Rattle.outside.specs.Outside.{Files}
use Rattle.input_points.specs.Entries.{most_lines}
use Rattle.input_points.specs.declared.entry.Entry.{Entry}
use Rattle.input_points.specs.declared.entry.LineKind.{LineKind}
use Rattle.input_points.specs.declared.entry.LineKind.TheVariants.{Blank, Point, Bad, TooMany}
use Rattle.catalog.specs.Dataset.{band_count, DatasetHead}
use Rattle.catalog.specs.Drivers.{Dataset}
use Rattle.catalog.specs.Pixels.{pixel_of_name}
use Rattle.catalog.specs.declared.faults.LimitKind.TheVariants as limits
use Rattle.location_report.specs.Covering.{covering_files}
use Rattle.location_report.specs.Location.{location_text}
use Rattle.location_report.specs.declared.report.Form.{Form}
use Rattle.gdal_cli.specs.declared.asked.Asked.{Asked}
use Rattle.error_lines.specs.declared.faults.Fault.{Fault}
use Rattle.error_lines.specs.declared.faults.Fault.TheVariants.{Plan, Limit, BadPoint}
use Rattle.error_lines.specs.Steps.{Done, all_done, prints}

-- the bands that are chosen by their numbers from 1, or all
abbrev pub chosen_of : ℕ → List ℕ → List ℕ
chosen_of count [] = range_with_len 1 count
chosen_of count (band ∷ bands) = band ∷ bands

-- the bands, unless one of them is lacking, which is refused then
abbrev pub unless_lacking : Option ℕ → List ℕ → Result (List ℕ) Fault
unless_lacking None bands = Ok bands
unless_lacking (Some band) bands = Err (Plan (NoBand band))

-- the chosen bands, or the first of them that the dataset lacks
abbrev pub chosen_in : ℕ → List ℕ → Result (List ℕ) Fault
chosen_in count bands = unless_lacking (find (λ band. nat_lt count band) bands) (chosen_of count bands)

-- the geotransform that points are placed by, where they are places and no columns and lines
abbrev pub frame_in : Bool → Option Transform → Result (Option Transform) Fault
frame_in false geo = Ok None
frame_in true None = Err (Plan NoGeo)
frame_in true (Some geo) = Ok (Some geo)

-- the column and the line of a point, which may be off the raster
abbrev pub column_and_line : Option Transform → ℤ → ℤ → ℤ × ℤ
column_and_line None x y = (floor_of x (pos unit), floor_of y (pos unit))
column_and_line (Some geo) x y = located geo x y

-- what is asked of a dataset, or that it lacks a band or a geotransform
unfoldable pub asked_in : Form → List ℕ → Bool → DatasetHead → Result Asked Fault
asked_in form bands geoloc head = do
  chosen ← chosen_in (band_count head) bands
  frame ← frame_in geoloc head.geo
  Ok (record { form = form; bands = chosen; frame = frame })

-- the values of bands in a column and a line, none off the raster; a pixel is known by its band, counted from 0
abbrev pub values_at : (ℕ → ℕ → ℕ → ℤ) → List ℕ → Option ℕ → Option ℕ → Option (List ℤ)
values_at pixel bands (Some x) (Some y) = Some (map (λ band. pixel (band - 1) x y) bands)
values_at pixel bands (Some x) None = None
values_at pixel bands None y = None

-- the names of the files that cover a column and a line in bands, none off the raster
abbrev pub files_at : List Dataset → Dataset → List ℕ → Option ℕ → Option ℕ → List (List ℕ)
files_at cat d bands (Some x) (Some y) = covering_files cat d x y bands
files_at cat d bands (Some x) None = []
files_at cat d bands None y = []

-- what is told of a place in a dataset of a catalog
abbrev pub told_text : Files → List Dataset → Dataset → Asked → ℤ × ℤ → List ℕ
told_text m cat d asked place =
    let x = within d.head.size.w place.0 in
    let y = within d.head.size.h place.1 in
    location_text asked.form place.0 place.1 (values_at (pixel_of_name m d.head.name) asked.bands x y) asked.bands
    (files_at cat d asked.bands x y)

-- what is told of a point
unfoldable pub point_text : Files → List Dataset → Dataset → Asked → ℤ → ℤ → List ℕ
point_text m cat d asked x y = told_text m cat d asked (column_and_line asked.frame x y)

-- what is told of a line, where `tell` tells of a point
abbrev pub line_text : (ℤ → ℤ → List ℕ) → LineKind → List ℕ
line_text tell Blank = []
line_text tell (Point x y) = tell x y
line_text tell Bad = []
line_text tell TooMany = []

-- why a line ends the reading, if it does
abbrev pub line_fault : ℕ → LineKind → Option Fault
line_fault number Blank = None
line_fault number (Point x y) = None
line_fault number Bad = Some (BadPoint number)
line_fault number TooMany = Some (Limit limits.Points (most_lines + 1))

-- of the faults of a line and of the lines behind it the one that stands first
abbrev pub first_fault : Option Fault → Option Fault → Option Fault
first_fault None later = later
first_fault (Some fault) later = Some fault

-- the fault of the first line that has one
abbrev pub lines_fault : List Entry → Option Fault
lines_fault [] = None
lines_fault (e ∷ es) = first_fault (line_fault e.line e.kind) (lines_fault es)

-- the answer to a point, or where there is none to the lines of an input, each by a step of its own
abbrev pub answers : (ℤ → ℤ → List ℕ) → Option (ℤ × ℤ) → List Entry → Done
answers tell (Some point) lines = all_done (prints (tell point.0 point.1 ∷ []))
answers tell None lines = record {
  steps = prints (map (λ (e : Entry). line_text tell e.kind) lines);
  fault = lines_fault lines;
}
