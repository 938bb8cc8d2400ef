-- The rules of what is read of a band and of a dataset.
use Rattle.std.specs.Prelude.{◌≡◌, ◌≤◌, length, IfSome, IsUtf8}
use Rattle.std.specs.List.{All}
use Rattle.vrt_profile.specs.Values.{IsSource, IsBand, IsDecimal, source_count, most_sources}
use Rattle.vrt_profile.specs.Means.{BandParts, DatasetParts}
use Rattle.geotransform.specs.Limits.{most_bands}

pub record IsBandParts (p : BandParts) : Type 0 where
  pub sources : All IsSource p.sources

pub record IsDatasetParts (p : DatasetParts) : Type 0 where
  pub srs : IfSome p.srs IsUtf8
  pub geo : IfSome p.geo IsDecimal
  pub few : length p.bands ≤ most_bands
  pub counted : source_count p.bands ≡ p.taken
  pub sources : p.taken ≤ most_sources
  pub bands : All IsBand p.bands
