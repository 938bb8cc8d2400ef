-- The work that words ask for: what is missing, and what doesn't go together.
use Rattle.std.specs.Prelude.{ℕ, ℤ, max, Bool, true, false, List, [], ◌∷◌, Option, Some, None, option_and_then}
use Rattle.std.specs.Prelude.{option_map, Result, Ok, Err, ok_or, if◌then◌else◌}
use Rattle.lists_and_answers.specs.Answers.{◌>>=◌}
use Rattle.outside.specs.Names.{extension_of}
use Rattle.outside.specs.declared.name.Ext.{Ext}
use Rattle.outside.specs.declared.name.Ext.TheVariants as ext
use Rattle.esri_hdr.specs.declared.header_parts.Layout.{Layout}
use Rattle.esri_hdr.specs.declared.header_parts.Layout.TheVariants.{Bil, Bip, Bsq}
use Rattle.location_report.specs.declared.report.Form.{Form}
use Rattle.location_report.specs.declared.report.Form.TheVariants.{Report, ValuesOnly, FilesOnly}
use Rattle.translate_plan.specs.declared.options.Driver.{Driver}
use Rattle.translate_plan.specs.declared.options.Driver.TheVariants as driver
use Rattle.translate_plan.specs.declared.options.View.{View}
use Rattle.translate_plan.specs.declared.options.View.TheVariants.{Whole}
use Rattle.translate_plan.specs.Options.{Options, driver_for}
use Rattle.buildvrt.specs.declared.options.Resolution.{Resolution}
use Rattle.buildvrt.specs.declared.options.Resolution.TheVariants.{Highest, Lowest, Average}
use Rattle.buildvrt.specs.Options.{Options as MosaicOptions}
use Rattle.command_words.specs.declared.command.Job.{Job}
use Rattle.command_words.specs.declared.command.Job.TheVariants as job
use Rattle.command_words.specs.declared.options.Tool.{Tool}
use Rattle.command_words.specs.declared.options.Tool.TheVariants.{Info, Locate, Translate, Build, Synth}
use Rattle.command_words.specs.declared.jobs.Asked.{Asked}
use Rattle.command_words.specs.declared.jobs.AskedMosaic.{AskedMosaic}
use Rattle.command_words.specs.declared.jobs.Written.{Written}
use Rattle.command_words.specs.declared.spoken.MosaicWanted.{MosaicWanted}
use Rattle.command_words.specs.declared.spoken.OutFormat.{OutFormat}
use Rattle.command_words.specs.declared.spoken.OutFormat.TheVariants.{EHdr, Dted, SrtmHgt, AaiGrid, Vrt}
use Rattle.command_words.specs.declared.spoken.ResolutionWord.{ResolutionWord}
use Rattle.command_words.specs.declared.spoken.ResolutionWord.TheVariants as word
use Rattle.command_words.specs.declared.spoken.Spoken.{Spoken}
use Rattle.command_words.specs.declared.spoken.Wanted.{Wanted}
use Rattle.command_words.specs.declared.spoken.WordFault.{WordFault}
use Rattle.command_words.specs.declared.spoken.WordFault.TheVariants.{Usage}

-- the two numbers of a point, or neither; one alone lacks the other
abbrev pub asked_point : Option ℤ → Option ℤ → Option (Option (ℤ × ℤ))
asked_point None None = Some None
asked_point None (Some y) = None
asked_point (Some x) None = None
asked_point (Some x) (Some y) = Some (Some (x, y))

-- the form that is asked for; two forms don't go together, and the one that stands later is refused
abbrev pub form_of : Option ℕ → Option ℕ → Result Form WordFault
form_of None None = Ok Report
form_of (Some values) None = Ok ValuesOnly
form_of None (Some files) = Ok FilesOnly
form_of (Some values) (Some files) = Err (Usage (max values files))

-- the format that names a driver
abbrev pub format_for : Driver → OutFormat
format_for driver.EHdr = EHdr
format_for (driver.Dted level) = Dted
format_for driver.SrtmHgt = SrtmHgt
format_for driver.AaiGrid = AaiGrid
format_for driver.Vrt = Vrt

-- the layout that an extension gives raw data, where nothing else is asked for
abbrev pub layout_for : Ext → Layout
layout_for ext.Bip = Bip
layout_for ext.Bsq = Bsq
layout_for other = Bil

-- how an extension is written: the format, its driver, and the layout of raw data
abbrev pub written_as : Ext → Written
written_as extension = record {
  format = format_for (driver_for extension);
  driver = driver_for extension;
  layout = layout_for extension;
}

-- whether two formats of outputs are the same one
abbrev pub is_same_format : OutFormat → OutFormat → Bool
is_same_format EHdr EHdr = true
is_same_format Dted Dted = true
is_same_format SrtmHgt SrtmHgt = true
is_same_format AaiGrid AaiGrid = true
is_same_format Vrt Vrt = true
is_same_format format other = false

-- an output of the format that is asked for, where one is
abbrev pub of_format : Option OutFormat → Written → Option Written
of_format None w = Some w
of_format (Some format) w = if is_same_format format w.format then Some w else None

-- how an output of this name is written
unfoldable pub written_of : Option OutFormat → List ℕ → Option Written
written_of format name = option_and_then (λ w. of_format format w) (option_map written_as (extension_of name))

-- the window that is asked for; pixels and places don't go together, and what stands later is refused
abbrev pub view_of : Option (ℕ × View) → Option (ℕ × View) → Result View WordFault
view_of None None = Ok Whole
view_of (Some window) None = Ok window.1
view_of None (Some places) = Ok places.1
view_of (Some window) (Some places) = Err (Usage (max window.0 places.0))

-- the layout of an output; only raw data is asked for one
abbrev pub layout_in : Option (ℕ × Layout) → Written → Result Layout WordFault
layout_in None w = Ok w.layout
layout_in (Some asked) w = if is_same_format EHdr w.format then Ok asked.1 else Err (Usage asked.0)

-- the job of gdalinfo, of a line of so many words
unfoldable pub info_job : ℕ → Spoken → Result Job WordFault
info_job count s = do
  name ← ok_or s.source (Usage count)
  Ok (job.Info name)

-- the job of gdallocationinfo, of a line of so many words
unfoldable pub locate_job : ℕ → Spoken → Result Job WordFault
locate_job count s = do
  name ← ok_or s.source (Usage count)
  point ← ok_or (asked_point s.x s.y) (Usage count)
  form ← form_of s.values_only s.files_only
  Ok (job.Locate name point s.bands form s.geoloc)

-- how the output of this name, which is the word of this number, is to be
unfoldable pub asked_of : Wanted → ℕ → List ℕ → Result Asked WordFault
asked_of wanted at name = do
  written ← ok_or (written_of wanted.format name) (Usage at)
  view ← view_of wanted.window wanted.places
  layout ← layout_in wanted.interleave written
  Ok (record { written = written; view = view; layout = layout })

-- what a translation is asked for, by what the words want and how its output of this name is to be
abbrev pub options_of : Wanted → List ℕ → List ℕ → Asked → Options
options_of wanted name bands a = record {
  driver = a.written.driver;
  layout = a.layout;
  out = name;
  bands = bands;
  view = a.view;
  outsize = wanted.outsize;
  nodata = wanted.nodata;
  kind = wanted.kind;
  epo = wanted.inside;
  eco = wanted.touching;
}

-- the job of gdal_translate, of a line of so many words
unfoldable pub translate_job : ℕ → Spoken → Result Job WordFault
translate_job count s = do
  name ← ok_or s.source (Usage count)
  output ← ok_or s.output (Usage count)
  asked ← asked_of s.wanted output.0 output.1
  Ok (job.Translate name (options_of s.wanted output.1 s.bands asked) s.quiet)

-- the inputs that stand among the words; a mosaic needs one, or a list of them
abbrev pub inputs_of : ℕ → List (List ℕ) → Option (List ℕ) → Result (List (List ℕ)) WordFault
inputs_of count [] None = Err (Usage count)
inputs_of count [] (Some list) = Ok []
inputs_of count (name ∷ names) list = Ok (name ∷ names)

-- whether each input gives a band of its own; chosen bands don't go together with that, and what stands later is
-- refused
abbrev pub separate_of : Option ℕ → Option ℕ → Result Bool WordFault
separate_of None band = Ok false
separate_of (Some separate) None = Ok true
separate_of (Some separate) (Some band) = Err (Usage (max separate band))

-- the resolution that a word names, where no size of pixels is given
abbrev pub named_resolution : ℕ → ResolutionWord → Result Resolution WordFault
named_resolution count word.Highest = Ok Highest
named_resolution count word.Lowest = Ok Lowest
named_resolution count word.Average = Ok Average
named_resolution count word.User = Err (Usage count)

-- a given size beside a word; only that of the user goes together with it, and of the others what stands later is
-- refused
abbrev pub given_resolution : ℕ × ResolutionWord → ℕ × Resolution → Result Resolution WordFault
given_resolution (at, word.User) given = Ok given.1
given_resolution (at, other) given = Err (Usage (max at given.0))

-- the resolution of a mosaic: that of the word, or the given size
abbrev pub resolution_of : ℕ → Option (ℕ × ResolutionWord) → Option (ℕ × Resolution) → Result Resolution WordFault
resolution_of count None None = Ok Average
resolution_of count None (Some given) = Ok given.1
resolution_of count (Some named) None = named_resolution count named.1
resolution_of count (Some named) (Some given) = given_resolution named given

-- how the mosaic of this name, which is the word of this number of so many, is to be
unfoldable pub asked_mosaic : ℕ → MosaicWanted → Option ℕ → ℕ → List ℕ → Result AskedMosaic WordFault
asked_mosaic count wanted band_at at name = do
  written ← ok_or (written_of (Some Vrt) name) (Usage at)
  separate ← separate_of wanted.separate band_at
  resolution ← resolution_of count wanted.resolution wanted.pixel_size
  Ok (record { separate = separate; resolution = resolution })

-- what a mosaic is asked for, by what the words want and how the mosaic of this name is to be
abbrev pub mosaic_options : MosaicWanted → List ℕ → List ℕ → AskedMosaic → MosaicOptions
mosaic_options wanted name bands a = record {
  out = name;
  bands = bands;
  resolution = a.resolution;
  extent = wanted.extent;
  src_nodata = wanted.src_nodata;
  vrt_nodata = wanted.vrt_nodata;
  separate = a.separate;
  strict = wanted.strict;
}

-- the job of gdalbuildvrt, of a line of so many words
unfoldable pub build_job : ℕ → Spoken → Result Job WordFault
build_job count s = do
  output ← ok_or s.output (Usage count)
  inputs ← inputs_of count s.inputs s.list
  asked ← asked_mosaic count s.mosaic s.band_at output.0 output.1
  Ok (job.Build inputs s.list (mosaic_options s.mosaic output.1 s.bands asked) s.quiet)

-- the job of synth, of a line of so many words
unfoldable pub synth_job : ℕ → Spoken → Result Job WordFault
synth_job count s = do
  side ← ok_or s.tile (Usage count)
  Ok (job.Synth side)

-- the work that the words ask for, where none of them is missing, of which there are so many
abbrev pub job_of : Tool → ℕ → Spoken → Result Job WordFault
job_of Info count s = info_job count s
job_of Locate count s = locate_job count s
job_of Translate count s = translate_job count s
job_of Build count s = build_job count s
job_of Synth count s = synth_job count s
