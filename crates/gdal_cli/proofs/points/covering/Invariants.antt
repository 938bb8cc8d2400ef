use Rattle.std.proofs.Common.{◌≡◌, ◌-◌, [], take, fold, slice_get, Some}
use Rattle.catalog.specs.Drivers.{Dataset}
use Rattle.location_report.specs.Covering.{with_covering}
use Rattle.gdal_cli.proofs.points.covering.Given as goal

-- the names in the bands so far
abbrev pub invariant-loop-band : goal.invariant-loop-band
invariant-loop-band l = (d : Dataset) → slice_get l.cat l.id ≡ Some d → l.files ≡ fold (λ ns band. with_covering l.cat d (band - 1) l.x l.y ns) [] (take l.band-index l.bands)
