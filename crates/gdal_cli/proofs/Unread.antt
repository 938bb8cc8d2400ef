-- The names that jobs publish.
use Rattle.std.proofs.Common.{◌≡◌, ℕ, Bool, List, [], Option}
use Rattle.buildvrt.specs.Options as buildvrt
use Rattle.translate_plan.specs.Options.{Options}
use Rattle.command_words.specs.declared.command.Job.TheVariants.{Translate, Build}
use Rattle.gdal_cli.specs.Run.{names_published}

-- a translation publishes a name
pub publishes_some : (src : List ℕ) (o : Options) (quiet : Bool) → names_published (Translate src o quiet) ≡ [] → ⊥
publishes_some src o quiet none = cc

-- so does the making of a mosaic
pub mosaic_published : (inputs : List (List ℕ)) (list : Option (List ℕ)) (o : buildvrt.Options) (quiet : Bool) → names_published (Build inputs list o quiet) ≡ [] → ⊥
mosaic_published inputs list o quiet none = cc
