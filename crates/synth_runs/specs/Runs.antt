-- The run from a number: rasters that a formula gives, mosaics of them, a copy of what these show, and what is told of
-- it.
use Rattle.std.specs.Prelude.{ℕ, ℤ, true, false, List, [], ◌∷◌, ◌++◌, Option, Some, None, Result, Ok, Err}
use Rattle.lists_and_answers.specs.Answers.{◌>>=◌}
use Rattle.outside.specs.Outside.{Files}
use Rattle.esri_hdr.specs.declared.header_parts.Layout.TheVariants.{Bil}
use Rattle.vrt_writing.specs.Spelled.{spelled}
use Rattle.catalog.specs.Drivers.{Dataset}
use Rattle.catalog.specs.Heads.{dataset_in}
use Rattle.catalog.specs.Pixels.{pixel_of_name}
use Rattle.catalog.specs.Places.{row_by_row}
use Rattle.catalog.specs.Walk.{walked}
use Rattle.catalog.specs.declared.nodata.NodataWord.TheVariants.{Absent}
use Rattle.buildvrt.specs.Options as buildvrt
use Rattle.buildvrt.specs.declared.options.Resolution.TheVariants.{Average}
use Rattle.translate_plan.specs.Options as translate
use Rattle.translate_plan.specs.declared.options.Driver.TheVariants.{EHdr}
use Rattle.translate_plan.specs.declared.options.View.TheVariants.{Whole}
use Rattle.error_lines.specs.declared.faults.Fault.{Fault}
use Rattle.error_lines.specs.Faults.{by_walk}
use Rattle.error_lines.specs.Steps.{Step, Done, all_done, refused, prints, published, publishes, applied}
use Rattle.mosaic_builds.specs.Built.{Built, built_in}
use Rattle.mosaic_builds.specs.Steps.{publishing_steps}
use Rattle.synthetic_rasters.specs.Names.{tile_names, inner_name, outer_name, output_name}
use Rattle.synthetic_rasters.specs.Outer.{outer_document}
use Rattle.synthetic_rasters.specs.Tally.{tally_of, tally_text}
use Rattle.synthetic_rasters.specs.Tiles.{tiles_files}
use Rattle.translation_runs.specs.Judged.{translation_run}

-- steps, and behind them those of another run, unless they end with a fault
abbrev pub followed : List Step → Option Fault → Done → Done
followed steps None next = record { steps = steps ++ next.steps; fault = next.fault }
followed steps (Some fault) next = record { steps = steps; fault = Some fault }

-- a run over the files of a map, and then another over the files that it leaves
unfoldable pub then_run : Files → Done → (Files → Done) → Done
then_run m first next = followed first.steps first.fault (next (applied (published first.steps) m))

-- what the mosaic of the tiles is asked for, and what the copy of the outer mosaic is: nothing but their names
abbrev pub inner_options : buildvrt.Options
inner_options = record {
  out = inner_name;
  bands = [];
  resolution = Average;
  extent = None;
  src_nodata = Absent;
  vrt_nodata = Absent;
  separate = false;
  strict = false;
}

abbrev pub output_options : translate.Options
output_options = record {
  driver = EHdr;
  layout = Bil;
  out = output_name;
  bands = [];
  view = Whole;
  outsize = None;
  nodata = Absent;
  kind = None;
  epo = false;
  eco = false;
}

-- the files of the tiles
abbrev pub tiles_run : ℕ → Done
tiles_run side = all_done (publishes (tiles_files side))

-- the mosaic that is made of the tiles, of which nothing is told
abbrev pub inner_done : Result Built Fault → Done
inner_done (Ok built) = all_done (publishing_steps true inner_name built.document)
inner_done (Err fault) = refused fault

abbrev pub inner_run : Files → Done
inner_run m = inner_done (built_in m false tile_names None inner_options)

-- the outer mosaic
abbrev pub outer_run : ℕ → Done
outer_run side = all_done (publishes ((outer_name, spelled (outer_document side)) ∷ []))

-- the copy of the outer mosaic, of which nothing is told
abbrev pub output_run : Files → Done
output_run m = translation_run m false outer_name output_options true

-- the dataset of the copy
unfoldable pub copied : Files → Result Dataset Fault
copied m = do
  cat ← by_walk (walked m false [] output_name)
  by_walk (dataset_in m false output_name)

-- the pixels of the first band of a dataset, line by line from north to south
abbrev pub samples_of : Files → Dataset → List ℤ
samples_of m d = row_by_row (pixel_of_name m d.head.name 0) (record {
  x = 0;
  y = 0;
  w = d.head.size.w;
  h = d.head.size.h;
})

-- what is told of the copy
abbrev pub tally_done : Files → Result Dataset Fault → Done
tally_done m (Ok d) = all_done (prints (tally_text d.head.size (tally_of (samples_of m d)) ∷ []))
tally_done m (Err fault) = refused fault

abbrev pub tally_run : Files → Done
tally_run m = tally_done m (copied m)

-- The run from a number: the tiles, the mosaic of them, the outer mosaic, its copy, and what is told of that. Each sees
-- the files that are published before it.
abbrev pub copy_run : Files → Done
copy_run m = then_run m (output_run m) tally_run

abbrev pub outer_runs : ℕ → Files → Done
outer_runs side m = then_run m (outer_run side) copy_run

abbrev pub mosaic_runs : ℕ → Files → Done
mosaic_runs side m = then_run m (inner_run m) (outer_runs side)

abbrev pub synth_run : ℕ → Files → Done
synth_run side m = then_run m (tiles_run side) (mosaic_runs side)
