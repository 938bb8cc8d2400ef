use Rattle.std.proofs.Common.{ap, refl}
use Rattle.catalog.proofs.Mosaics.{mosaic_valid}
use Rattle.catalog.proofs.mosaic_head.mosaic_head.Goals as goal

pub invariant_of-result : goal.invariant_of-result
invariant_of-result c = mosaic_valid _ c.args.document.now c.rules.ensures.rules refl (ap (λ d. d.size) c.document.view_is) c.in_ok-bands.ensures

pub returns-clause-valid : goal.returns-clause-valid
returns-clause-valid c = invariant_of-result c
