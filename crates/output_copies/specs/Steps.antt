-- What a translation does, a step at a time.
use Rattle.std.specs.Prelude.{ℕ, ℤ, Bool, true, false, List, [], ◌∷◌, ◌++◌, codes, Option, Some, None}
use Rattle.std.specs.Fmt.{decimal}
use Rattle.lists_and_answers.specs.Texts.{text}
use Rattle.geotransform.specs.declared.types.Size.{Size}
use Rattle.outside.specs.Outside.{Files}
use Rattle.vrt_writing.specs.Spelled.{spelled}
use Rattle.catalog.specs.Drivers.{Dataset}
use Rattle.catalog.specs.Pixels.{pixel_of_name}
use Rattle.translate_plan.specs.Documents.{document_by}
use Rattle.translate_plan.specs.Plan.{Planned, out_pixel}
use Rattle.translate_plan.specs.declared.options.Driver.{Driver}
use Rattle.translate_plan.specs.declared.options.Driver.TheVariants.{Vrt}
use Rattle.write_back.specs.Files.{files_of}
use Rattle.write_back.specs.Plans.{output_of}
use Rattle.write_back.specs.View.{Output}
use Rattle.error_lines.specs.Progress.{progress, progress_end}
use Rattle.error_lines.specs.Steps.{Step, Prints, publishes}

-- what is told before the work: the size of the source
abbrev pub size_line : Size → List ℕ
size_line size = text (codes "Input file size is " ∷ decimal size.w ∷ codes ", " ∷ decimal size.h ∷ codes "\n" ∷ [])

-- all that is told: the size of the source, how far the work is, and that it is done
abbrev pub translation_text : Size → List ℕ
translation_text size = size_line size ++ (progress ++ progress_end)

-- a text is put, but for a quiet translation
abbrev pub unless_quiet : Bool → List ℕ → List Step
unless_quiet true told = []
unless_quiet false told = Prints told ∷ []

-- the samples of the output of a plan of a dataset, by band, column and line
abbrev pub raster_of : Files → Dataset → Planned → ℕ → ℕ → ℕ → ℤ
raster_of m d p = out_pixel p d.head.size (pixel_of_name m d.head.name)

-- the files of samples that a plan's output becomes under a name; a mosaic has no samples of its own
abbrev pub files_by : Option Output → List ℕ → (ℕ → ℕ → ℕ → ℤ) → List (List ℕ × List ℕ)
files_by None name samples = []
files_by (Some o) name samples = files_of o name samples

-- what a driver writes of a plan of a dataset under a name: the document of a mosaic, or files of samples
abbrev pub written_by : Driver → Files → Dataset → Planned → List ℕ → List (List ℕ × List ℕ)
written_by Vrt m d p name = (name, spelled (document_by p name d.head)) ∷ []
written_by _ m d p name = files_by (output_of p) name (raster_of m d p)

abbrev pub written_files : Files → Dataset → Planned → List ℕ → List (List ℕ × List ℕ)
written_files m d p name = written_by p.driver m d p name

-- the steps of a translation of a dataset by a plan into files under a name
unfoldable pub translation_steps : Bool → Files → Dataset → Planned → List ℕ → List Step
translation_steps quiet m d p name =
    unless_quiet quiet (size_line d.head.size) ++ (unless_quiet quiet progress ++
    (publishes (written_files m d p name) ++ unless_quiet quiet progress_end))
