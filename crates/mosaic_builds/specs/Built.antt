-- What a mosaic is made of: its inputs, walked and judged, and its document.
use Rattle.std.specs.Prelude.{ℕ, Bool, List, [], length, map, slice_get, Option, Result, Ok}
use Rattle.std.specs.List.{All}
use Rattle.lists_and_answers.specs.Answers.{◌>>=◌}
use Rattle.outside.specs.Outside.{Files}
use Rattle.vrt_profile.specs.Values.{DocumentValue}
use Rattle.catalog.specs.Dataset.{DatasetHead}
use Rattle.catalog.specs.Drivers.{Dataset}
use Rattle.buildvrt.specs.Options.{Options}
use Rattle.buildvrt.specs.Judging.{name_of, IsOneOf}
use Rattle.buildvrt.specs.Mosaic.{mosaic_of}
use Rattle.buildvrt.specs.declared.faults.Skipped.{Skipped}
use Rattle.error_lines.specs.declared.faults.Fault.{Fault}
use Rattle.error_lines.specs.Faults.{by_build}
use Rattle.error_lines.specs.Texts.{warning_line}
use Rattle.published_files.specs.Names.{unless_own}
use Rattle.mosaic_builds.specs.declared.making.Made.{Made}
use Rattle.mosaic_builds.specs.Inputs.{names_in}
use Rattle.mosaic_builds.specs.Walks.{walked_all, heads_of, heads_at, AreKnown}

-- a mosaic before it is published, and the warnings of its skipped inputs
pub record Built : Type 0 where
  pub document : DocumentValue
  pub warnings : List (List ℕ)

-- the warning of a skipped input tells its name and why it is skipped
abbrev pub warning_of : List DatasetHead → Skipped → List ℕ
warning_of heads skipped = warning_line (name_of (slice_get heads skipped.input)) skipped.reason

abbrev pub warnings_of : List DatasetHead → List Skipped → List (List ℕ)
warnings_of heads skipped = map (warning_of heads) skipped

-- the mosaic of walked inputs, whose name is none of a file that was read
unfoldable pub built_of : Options → List Dataset → List DatasetHead → Result Built Fault
built_of o cat heads = do
  made ← by_build (mosaic_of o heads)
  free ← unless_own cat o.out
  Ok (record { document = made.0; warnings = warnings_of heads made.1 })

-- The mosaic of the inputs over these files, or the first refusal: that of a name, of a walk, of the mosaic, and last
-- that its own name is one of a file that was read.
unfoldable pub built_in : Files → Bool → List (List ℕ) → Option (List ℕ) → Options → Result Built Fault
built_in m verify inputs list o = do
  names ← names_in m inputs list
  cat ← walked_all m verify [] names
  built_of o cat (heads_of cat names)

-- what is kept of a mosaic until it is published: the numbers are of datasets, and the skipped inputs are among them
pub record IsMade (made : Made) : Type 0 where
  pub known : AreKnown made.cat made.ids
  pub within : All (IsOneOf (length made.ids)) made.skipped

-- the document that was made, and the warnings of the inputs that were skipped
abbrev pub built_by : Made → Built
built_by made = record { document = made.document; warnings = warnings_of (heads_at made.cat made.ids) made.skipped }
