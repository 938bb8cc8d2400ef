-- The names of a small list behind a given one, and the warning of a skipped input.
use Rattle.std.proofs.Common.{◌≡◌, refl, ℕ, List, [], ◌∷◌, true, Ok, None}
use Rattle.std.specs.Prelude.{codes}
use Rattle.std.specs.Str.Lines.{lines}
use Rattle.outside.specs.Paths.{normal}
use Rattle.geotransform.specs.declared.types.PixelType.TheVariants.{Byte}
use Rattle.catalog.specs.Dataset.{DatasetHead}
use Rattle.catalog.specs.declared.kind.Kind.TheVariants.{Raw}
use Rattle.buildvrt.specs.declared.faults.Reason.TheVariants.{Bands, BandType}
use Rattle.mosaic_builds.specs.Feeds.{without_empty}
use Rattle.mosaic_builds.specs.Inputs.{filled, named_behind}
use Rattle.mosaic_builds.specs.Built.{warnings_of}

-- the second line is empty, and the last has no end
three_names : named_behind (codes "west.hgt" ∷ []) (filled (lines (codes "east.hgt\n\nnorth.hgt"))) ≡ Ok (codes "west.hgt" ∷ codes "east.hgt" ∷ codes "north.hgt" ∷ [])
unfolding normal
three_names = refl

-- of the line feeds those stay that end what isn't empty
gaps_gone : without_empty true (codes "\n\na\n\n\nb\n\n") ≡ codes "a\nb\n"
gaps_gone = refl

-- a dataset of a name
abbrev dataset : List ℕ → DatasetHead
dataset name = record {
  name = name;
  kind = Raw;
  size = record { w = 1; h = 1 };
  geo = None;
  srs = None;
  bands = record { kind = Byte; nodata = None; block = record { w = 1; h = 1 } } ∷ [];
  files = name ∷ [];
}

third_skipped : warnings_of (dataset (codes "a.bil") ∷ dataset (codes "b.bil") ∷ dataset (codes "two.bil") ∷ []) (record { input = 1; reason = BandType } ∷ record { input = 2; reason = Bands } ∷ []) ≡ codes "Warning 1: b.bil: skipped (type)\n" ∷ codes "Warning 1: two.bil: skipped (bands)\n" ∷ []
third_skipped = refl
