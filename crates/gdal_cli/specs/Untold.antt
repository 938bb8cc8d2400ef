-- What is told of a place over every folder, also over one that doesn't tell its files.
use Rattle.std.specs.Prelude.{◌≡◌, ℕ, ℤ, List, [], Option, Some, None, slice_get}
use Rattle.geotransform.specs.Pixels.{within}
use Rattle.outside.specs.Streams.{Gets}
use Rattle.catalog.specs.Drivers.{Dataset}
use Rattle.location_report.specs.Covering.{covering_files}
use Rattle.location_report.specs.Location.{location_text}
use Rattle.location_report.specs.declared.report.Form.TheVariants.{FilesOnly}
use Rattle.gdal_cli.specs.declared.asked.Asked.{Asked}
use Rattle.gdal_cli.specs.Pixels.{AreOfBands}

-- The text is what is told of a place that has this column and this line of the raster: with some value of each band,
-- where values are told, and with none off the raster.
abbrev pub IsTold : List Dataset → ℕ → Dataset → Asked → ℤ × ℤ → Option ℕ → Option ℕ → List ℕ → Type 0
IsTold cat id d asked place (Some x) (Some y) text = (values : List ℤ) ×
    ((asked.form ≡ FilesOnly → ⊥) → AreOfBands cat id asked.bands values) ×
    (text ≡ location_text asked.form place.0 place.1 (Some values) asked.bands (covering_files cat d x y asked.bands))
IsTold cat id d asked place (Some x) None text = text ≡ location_text asked.form place.0 place.1 None asked.bands []
IsTold cat id d asked place None y text = text ≡ location_text asked.form place.0 place.1 None asked.bands []

-- the same of a place in the dataset of this number
pub record TellsPlace (cat : List Dataset) (id : ℕ) (asked : Asked) (place : ℤ × ℤ) (text : List ℕ) : Type 0 where
  pub dataset : Dataset
  pub at : slice_get cat id ≡ Some dataset
  pub told : IsTold cat id dataset asked place (within dataset.head.size.w place.0) (within dataset.head.size.h place.1)
      text

-- such a text was put
pub record PutsPlace (cat : List Dataset) (id : ℕ) (asked : Asked) (place : ℤ × ℤ) (before after : Option (List ℕ))
    : Type 0 where
  pub text : List ℕ
  pub tells : TellsPlace cat id asked place text
  pub put : Gets text before after
