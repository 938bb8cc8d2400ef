use Rattle.std.proofs.Common.{◌+◌, ◌*◌, take, Ok}
use Rattle.std.specs.Prelude.{flat_map}
use Rattle.vrt_profile.specs.Values.{BandValue}
use Rattle.catalog.specs.Linked.{IsMosaicAt, HasBand}
use Rattle.catalog.specs.Walking.{folder_seen, Passes, Reaches, ReachesRows}
use Rattle.catalog.proofs.walk.+walk.Given as goal

abbrev pub decreases-visit : goal.decreases-visit
decreases-visit g l = 4 * l.room

abbrev pub decreases-visit_bands : goal.decreases-visit_bands
decreases-visit_bands g l = 4 * l.room + 3

abbrev pub decreases-visit_band : goal.decreases-visit_band
decreases-visit_band g l = 4 * l.room + 2

abbrev pub decreases-visit_source : goal.decreases-visit_source
decreases-visit_source g l = 4 * l.room + 1

-- the sources so far are those that the walk went through
abbrev pub invariant-visit_band-loop-source : goal.invariant-visit_band-loop-source
invariant-visit_band-loop-source g l = (w : HasBand l.fn.met l.id l.band) → Passes l.verify l.room w.mosaic.dataset.head.name (take l.source w.value.sources) (folder_seen (g.F.Folder.names l.fn.folder) (g.F.Folder.write_calls l.fn.folder) (g.F.Folder.read_calls l.fn.folder) (g.F.Folder.faults l.fn.folder)) (folder_seen (g.F.Folder.names l.folder) (g.F.Folder.write_calls l.folder) (g.F.Folder.read_calls l.folder) (g.F.Folder.faults l.folder)) l.fn.met l.met (λ row. Reaches l.met l.room w.mosaic.dataset.head.name (take l.source w.value.sources) row) (Ok l.row)

-- the bands so far are those that the walk went through
abbrev pub invariant-visit_bands-loop-band : goal.invariant-visit_bands-loop-band
invariant-visit_bands-loop-band g l = (w : IsMosaicAt l.fn.met l.id) → Passes l.verify l.room w.dataset.head.name (flat_map (λ (b : BandValue). b.sources) (take l.band w.document.bands)) (folder_seen (g.F.Folder.names l.fn.folder) (g.F.Folder.write_calls l.fn.folder) (g.F.Folder.read_calls l.fn.folder) (g.F.Folder.faults l.fn.folder)) (folder_seen (g.F.Folder.names l.folder) (g.F.Folder.write_calls l.folder) (g.F.Folder.read_calls l.folder) (g.F.Folder.faults l.folder)) l.fn.met l.met (λ rows. ReachesRows l.met l.room w.dataset.head.name (take l.band w.document.bands) rows) (Ok l.rows)
