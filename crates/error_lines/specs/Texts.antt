-- The lines of faults.
use Rattle.std.specs.Prelude.{ℕ, List, [], ◌∷◌, ◌++◌, codes, Option, Some, None}
use Rattle.std.specs.Fmt.{decimal}
use Rattle.esri_hdr.specs.Faults as hdr
use Rattle.dted_records.specs.Faults as dted
use Rattle.dted_records.specs.declared.head.DtedFault.{DtedFault}
use Rattle.dted_records.specs.declared.head.DtedFault.TheVariants as dted_fault
use Rattle.hgt_tiles.specs.Names as hgt
use Rattle.ascii_grid.specs.Faults as grid
use Rattle.vrt_markup.specs.Faults as vrt
use Rattle.geotransform.specs.declared.faults.PlanFault.{PlanFault}
use Rattle.geotransform.specs.declared.faults.PlanFault.TheVariants as plan
use Rattle.catalog.specs.declared.faults.LimitKind.{LimitKind}
use Rattle.catalog.specs.declared.faults.LimitKind.TheVariants as limits
use Rattle.catalog.specs.declared.faults.Bad.{Bad}
use Rattle.catalog.specs.declared.faults.Bad.TheVariants as bad
use Rattle.buildvrt.specs.declared.faults.Reason.{Reason}
use Rattle.buildvrt.specs.declared.faults.Reason.TheVariants as reason
use Rattle.buildvrt.specs.declared.faults.BuildFault.{BuildFault}
use Rattle.buildvrt.specs.declared.faults.BuildFault.TheVariants as build
use Rattle.lists_and_answers.specs.Texts.{text}
use Rattle.error_lines.specs.declared.faults.Fault.{Fault}
use Rattle.error_lines.specs.declared.faults.Fault.TheVariants.{Usage, Absent, NotRecognized, Malformed, Short, Cycle}
use Rattle.error_lines.specs.declared.faults.Fault.TheVariants.{TooDeep, Limit, SourceBand, Plan, Build, SameName}
use Rattle.error_lines.specs.declared.faults.Fault.TheVariants.{BadPoint, Changed, FolderFault, InputFault, OutFault}
use Rattle.error_lines.specs.declared.faults.Fault.TheVariants.{Memory}

-- the place of a fault, where it has one
abbrev pub place_text : Option ℕ → List ℕ
place_text None = []
place_text (Some place) = codes " at " ++ decimal place

-- the line of a file that isn't of its form
abbrev pub form_line : List ℕ → List ℕ → ℕ → Option ℕ → List ℕ
form_line name form number place = text (codes "ERROR 4: " ∷ name ∷ codes ": malformed " ∷ form ∷ codes
    " (" ∷ decimal number ∷ codes ")" ∷ place_text place ∷ codes "\n" ∷ [])

-- the line of a cell, from the west, that a fault speaks of
abbrev pub cell_line_of : DtedFault → Option ℕ
cell_line_of dted_fault.NotDted = None
cell_line_of dted_fault.BadField = None
cell_line_of dted_fault.Short = None
cell_line_of (dted_fault.BadRecord line) = Some line

abbrev pub bad_line : List ℕ → Bad → List ℕ
bad_line name (bad.Hdr fault) = form_line name (codes "hdr") (hdr.fault_number fault) None
bad_line name (bad.Dted fault) = form_line name (codes "dted") (dted.fault_number fault) (cell_line_of fault)
bad_line name (bad.Hgt fault) = form_line name (codes "hgt") (hgt.fault_number fault) None
bad_line name (bad.Grid fault) = form_line name (codes "grid") (grid.fault_number fault) (grid.fault_place fault)
bad_line name (bad.Vrt fault) = form_line name (codes "vrt") (vrt.fault_number fault) (vrt.fault_place fault)
bad_line name bad.List = form_line name (codes "list") 1 None

-- what is counted against a limit
abbrev pub limit_word : LimitKind → List ℕ
limit_word limits.Name = codes "name"
limit_word limits.Files = codes "files"
limit_word limits.Sources = codes "sources"
limit_word limits.List = codes "list"
limit_word limits.Points = codes "points"

-- the length that is found where a file is opened again
abbrev pub length_text : Option ℕ → List ℕ
length_text None = codes "none"
length_text (Some len) = decimal len

-- the line of what can't be given
abbrev pub plan_line : PlanFault → List ℕ
plan_line (plan.NoBand band) = text (codes "ERROR 5: no band " ∷ decimal band ∷ codes "\n" ∷ [])
plan_line plan.NoGeo = codes "ERROR 1: no geotransform\n"
plan_line plan.EmptyWindow = codes "ERROR 5: empty window\n"
plan_line plan.Limit = codes "ERROR 6: output too large\n"
plan_line plan.Outside = codes "ERROR 5: window outside the raster\n"
plan_line plan.BandCount = codes "ERROR 6: format takes one band\n"
plan_line plan.Unfit = codes "ERROR 6: raster doesn't fit the format\n"

-- why an input is skipped
abbrev pub reason_word : Reason → List ℕ
reason_word reason.Geotransform = codes "geotransform"
reason_word reason.Srs = codes "srs"
reason_word reason.Bands = codes "bands"
reason_word reason.BandType = codes "type"

-- what is told of an input that is skipped
abbrev pub skipped_line : List ℕ → List ℕ → Reason → List ℕ
skipped_line head name why = text (head ∷ name ∷ codes ": skipped (" ∷ reason_word why ∷ codes ")\n" ∷ [])

-- the warning that tells it
abbrev pub warning_line : List ℕ → Reason → List ℕ
warning_line name why = skipped_line (codes "Warning 1: ") name why

-- the line of a mosaic that can't be made
abbrev pub build_line : BuildFault → List ℕ
build_line build.Nothing = codes "ERROR 1: no input fits\n"
build_line (build.Strict name why) = skipped_line (codes "ERROR 1: ") name why
build_line build.Limit = codes "ERROR 6: mosaic too large\n"
build_line build.Memory = codes "ERROR 2: out of memory\n"

-- the line that tells a fault
abbrev pub error_line : Fault → List ℕ
error_line (Usage word) = text (codes "ERROR 1: word " ∷ decimal word ∷ codes " doesn't fit\n" ∷ [])
error_line (Absent name) = text (codes "ERROR 4: " ∷ name ∷ codes ": no such file\n" ∷ [])
error_line (NotRecognized name) =
    text (codes "ERROR 4: " ∷ name ∷ codes ": not recognized as a supported format\n" ∷ [])
error_line (Malformed name bad) = bad_line name bad
error_line (Short name needed has) = text (codes "ERROR 4: " ∷ name ∷ codes ": needs " ∷ decimal needed ∷ codes
    " bytes, has " ∷ decimal has ∷ codes "\n" ∷ [])
error_line (Cycle name) = text (codes "ERROR 1: " ∷ name ∷ codes ": mosaic contains itself\n" ∷ [])
error_line (TooDeep name) = text (codes "ERROR 1: " ∷ name ∷ codes ": nested too deep\n" ∷ [])
error_line (Limit what value) =
    text (codes "ERROR 6: limit of " ∷ limit_word what ∷ codes " passed (" ∷ decimal value ∷ codes ")\n" ∷ [])
error_line (SourceBand name band) =
    text (codes "ERROR 5: " ∷ name ∷ codes ": no band " ∷ decimal band ∷ codes "\n" ∷ [])
error_line (Plan fault) = plan_line fault
error_line (Build fault) = build_line fault
error_line (SameName name) = text (codes "ERROR 1: " ∷ name ∷ codes ": output is an input\n" ∷ [])
error_line (BadPoint line) = text (codes "ERROR 5: input line " ∷ decimal line ∷ codes " is no point\n" ∷ [])
error_line (Changed name was now) = text (codes "ERROR 3: " ∷ name ∷ codes ": length changed from " ∷ decimal was
    ∷ codes " to " ∷ length_text now ∷ codes "\n" ∷ [])
error_line FolderFault = codes "ERROR 3: a file call failed\n"
error_line InputFault = codes "ERROR 3: reading the input failed\n"
error_line OutFault = codes "ERROR 3: writing the output failed\n"
error_line Memory = codes "ERROR 2: out of memory\n"

-- the line of a fault, where there is one
abbrev pub error_line_of : Option Fault → List ℕ
error_line_of None = []
error_line_of (Some fault) = error_line fault
