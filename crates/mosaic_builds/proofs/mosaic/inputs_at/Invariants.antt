use Rattle.std.proofs.Common.{◌≡◌, take}
use Rattle.mosaic_builds.specs.Walks.{heads_at}
use Rattle.mosaic_builds.proofs.mosaic.inputs_at.Given as goal

abbrev pub invariant-loop-id : goal.invariant-loop-id
invariant-loop-id l = l.inputs ≡ heads_at l.cat (take l.id-index l.ids)
