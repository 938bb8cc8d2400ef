-- How the run from a number may end over every folder.
use Rattle.std.specs.Prelude.{ℕ, ◌≡◌, Contains, List, [], ◌∷◌, ◌++◌, flat_map, Option, Err}
use Rattle.std.specs.List.{range_with_len}
use Rattle.geotransform.specs.declared.types.Size.{Size}
use Rattle.outside.specs.Names.{header_of}
use Rattle.outside.specs.Streams.{Gets}
use Rattle.catalog.specs.Heads.{kind_in, IsOwnFault}
use Rattle.catalog.specs.declared.faults.WalkFault.TheVariants as walk
use Rattle.buildvrt.specs.declared.faults.BuildFault.TheVariants as build
use Rattle.error_lines.specs.declared.faults.Fault.{Fault}
use Rattle.error_lines.specs.declared.faults.Fault.TheVariants.{Usage, Absent, NotRecognized, Malformed, Short, Cycle}
use Rattle.error_lines.specs.declared.faults.Fault.TheVariants.{TooDeep, Limit, SourceBand, Plan, Build, SameName}
use Rattle.error_lines.specs.declared.faults.Fault.TheVariants.{BadPoint, Changed, FolderFault, InputFault, OutFault}
use Rattle.error_lines.specs.declared.faults.Fault.TheVariants.{Memory}
use Rattle.synthetic_rasters.specs.Names.{tile_name, inner_name, outer_name, output_name}
use Rattle.synthetic_rasters.specs.Tally.{Totals, tally_text}

-- the names that are published, in order: a raster's data, then its header
abbrev pub raster_names : List ℕ → List (List ℕ)
raster_names name = name ∷ header_of name ∷ []

abbrev pub names_made : List (List ℕ)
names_made = flat_map (λ t. raster_names (tile_name t)) (range_with_len 0 4) ++
    inner_name ∷ outer_name ∷ raster_names output_name

-- The faults that it may end with over every folder. Where a folder doesn't tell its files, a later part may read
-- something else than an earlier one published; where it does, none of these comes but those of the outside.
abbrev pub MayEnd : Fault → Type 0
MayEnd (Usage n) = ⊥
MayEnd (Absent name) = Unit {0}
MayEnd (NotRecognized name) = kind_in name ≡ Err (walk.NotRecognized name)
MayEnd (Malformed name b) = IsOwnFault b
MayEnd (Short name needed has) = Unit {0}
MayEnd (Cycle name) = Unit {0}
MayEnd (TooDeep name) = Unit {0}
MayEnd (Limit what value) = Unit {0}
MayEnd (SourceBand name band) = Unit {0}
MayEnd (Plan fault) = Unit {0}
MayEnd (Build fault) = fault ≡ build.Memory → ⊥
MayEnd (SameName name) = Contains names_made name
MayEnd (BadPoint line) = ⊥
MayEnd (Changed name was now) = Unit {0}
MayEnd FolderFault = Unit {0}
MayEnd InputFault = ⊥
MayEnd OutFault = Unit {0}
MayEnd Memory = Unit {0}

-- five lines on the samples of some raster were put
abbrev pub PutsLines : Option (List ℕ) → Option (List ℕ) → Type 0
PutsLines before after = (size : Size) × (totals : Totals) × Gets (tally_text size totals) before after
