use Rattle.std.proofs.Common.{◌≡◌, ℕ, List, Option, Some, Result, Ok, Err, IfOk}
use Rattle.std.specs.Prelude.{slice_get}
use Rattle.geotransform.specs.declared.types.Size.{Size}
use Rattle.outside.specs.Outside.{Files}
use Rattle.catalog.specs.Drivers.{Dataset}
use Rattle.synthetic_rasters.specs.Tally.{Totals, tally_of}
use Rattle.synth_runs.specs.Tallied.{first_band_lines, AreTallied}
use Rattle.synth_runs.proofs.strips.tally_copied.Goals as goal

-- over a folder that tells its files the tally is that of the dataset's lines
of_lines : {E : Type 0} (r : Result Totals E) (told : Option Files) (cat : List Dataset) (id : ℕ) (size : Size) (end : ℕ) (m : Files) (d : Dataset)
    → IfOk r (AreTallied told cat id size end) → told ≡ Some m → slice_get cat id ≡ Some d → IfOk r (λ t. t ≡ tally_of (first_band_lines m d.head.name size 0 end))
of_lines (Ok t) told cat id size end m d are is at = are.tallied m d is at
of_lines (Err e) told cat id size end m d are is at = tt

pub returns-clause-tally : goal.returns-clause-tally
returns-clause-tally g c = λ m is d at.
    of_lines c.tally_lines-tally.result (g.F.Folder.names c.args.folder.now) c.args.copied.now.cat c.args.copied.now.id c.args.copied.now.size c.args.copied.now.size.h m d c.tally_lines-tally.ensures.tallied is at
