use Rattle.std.proofs.Common.{◌∙◌, ap, sym}
use Rattle.vrt_profile.specs.Values.{BandValue}
use Rattle.catalog.proofs.Listings.{err_is, passed_band, refused_band}
use Rattle.catalog.proofs.mosaic_head.bands_within.Goals as goal

pub returns-in_err-sources_within : goal.returns-in_err-sources_within
returns-in_err-sources_within c =
    let sources = c.as_slice.ensures.items ∙ ap (λ (b : BandValue). b.sources) c.band.view_is in
    err_is c.from_residual.result c.in_err-sources_within.field-0.0 c.from_residual.ensures
    ∙ refused_band c.args.base.now c.args.bands.now c.loop-band.band-index c.band-item.result c.as_slice.result.now c.in_err-sources_within.field-0.0 sources c.loop-band-test.true c.band-item.is (sym c.sources_within.ensures ∙ c.in_err-sources_within.was) c.loop-band.invariant

pub loop-band-preserved : goal.loop-band-preserved
loop-band-preserved c =
    let sources = c.as_slice.ensures.items ∙ ap (λ (b : BandValue). b.sources) c.band.view_is in
    passed_band c.args.base.now c.args.bands.now c.loop-band.band-index c.band-item.result c.as_slice.result.now c.in_ok-sources_within.field-0 sources c.loop-band-test.true c.band-item.is (sym c.sources_within.ensures ∙ c.in_ok-sources_within.was) c.loop-band.invariant
