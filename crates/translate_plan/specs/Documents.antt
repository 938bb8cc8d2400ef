-- The document that shows the output of a plan.
use Rattle.std.specs.Prelude.{◌≡◌, ℕ, ◌+◌, ◌≤◌, pos, List, [], ◌∷◌, length, map, false, Some, None, Ok}
use Rattle.std.specs.FinMap.{get}
use Rattle.outside.specs.Names.{extension_of}
use Rattle.outside.specs.Paths.{IsName}
use Rattle.outside.specs.declared.name.Ext.TheVariants as ext
use Rattle.outside.specs.Outside.{Files}
use Rattle.vrt_profile.specs.Values.{Rectangle, SourceValue, BandValue, DocumentValue, IsDocument, longest_document}
use Rattle.vrt_profile.specs.Cover.{whole}
use Rattle.vrt_profile.specs.Resolve.{related}
use Rattle.vrt_writing.specs.Spelled.{spelled}
use Rattle.vrt_profile.specs.Built.{pixel_rectangle, plain_source}
use Rattle.catalog.specs.Dataset.{DatasetHead}
use Rattle.catalog.specs.Drivers.{Dataset}
use Rattle.catalog.specs.Heads.{dataset_in}
use Rattle.translate_plan.specs.declared.options.Driver.TheVariants.{Vrt}
use Rattle.translate_plan.specs.declared.band.OutBand.{OutBand}
use Rattle.translate_plan.specs.Plan.{Planned}

-- the window of the source
abbrev pub window_of : Planned → Rectangle
window_of p = pixel_rectangle p.x p.y (pos p.window.w) (pos p.window.h)

-- the source of an output's band, in the document `base`: the window of its band of the dataset `name`, on the whole of
-- the output
abbrev pub shown_source : Planned → List ℕ → List ℕ → OutBand → SourceValue
shown_source p base name b = plain_source (related base name) (b.source + 1) (window_of p) (whole p.size) None

-- an output's band, which has this source alone
abbrev pub shown_band : Planned → List ℕ → List ℕ → OutBand → BandValue
shown_band p base name b = record { kind = b.kind; nodata = b.nodata; sources = shown_source p base name b ∷ [] }

-- the document `base` that shows the output of a plan of a dataset
abbrev pub document_by : Planned → List ℕ → DatasetHead → DocumentValue
document_by p base h = record {
  size = p.size;
  srs = h.srs;
  geo = p.geo;
  bands = map (shown_band p base h.name) p.bands;
}

-- Under the name `base` a folder has the document that shows the output of a plan of a mosaic, of a dataset whose head
-- the folder's files tell.
pub record IsPublished (m : Files) (base : List ℕ) (p : Planned) (h : DatasetHead) : Type 0 where
  pub driver : p.driver ≡ Vrt
  pub rules : IsDocument (document_by p base h)
  pub extension : extension_of base ≡ Some ext.Vrt
  pub bytes : get m base ≡ Some (spelled (document_by p base h))
  pub short : length (spelled (document_by p base h)) ≤ longest_document
  pub name : IsName h.name
  pub source : Dataset
  pub told : dataset_in m false h.name ≡ Ok source
  pub head : source.head ≡ h
