-- Where the single samples of files stand.
use Rattle.std.specs.Prelude.{◌≡◌, ℕ, ℤ, true, Some}
use Rattle.geotransform.specs.Types.{is_in}
use Rattle.geotransform.specs.declared.types.PixelType.{PixelType}
use Rattle.catalog.specs.Drivers.{Dataset}
use Rattle.catalog.specs.declared.driver.Content.{Content}
use Rattle.catalog.specs.declared.driver.Content.TheVariants.{File, Mosaic}
use Rattle.catalog.specs.declared.driver.DriverHead.{DriverHead}
use Rattle.catalog.specs.declared.driver.DriverHead.TheVariants.{Raw, Dted, Hgt, Ascii}
use Rattle.catalog.specs.Dataset.{type_at}

-- each sample of a file has a place that its head tells; the values of a grid have none
abbrev pub HasPlaces : DriverHead → Type 0
HasPlaces (Raw h) = Unit {0}
HasPlaces (Dted h) = Unit {0}
HasPlaces (Hgt side) = Unit {0}
HasPlaces (Ascii h) = ⊥

-- the same of a content; a mosaic has no samples of its own
abbrev pub IsDirect : Content → Type 0
IsDirect (File h) = HasPlaces h
IsDirect (Mosaic d) = ⊥

-- the sample is in the type of a band of a dataset
abbrev pub IsOfType : Dataset → ℕ → ℤ → Type 0
IsOfType d band sample = (kind : PixelType) → type_at d.head band ≡ Some kind →
    is_in kind sample ≡ true
