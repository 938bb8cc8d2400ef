use Rattle.std.proofs.Common.{◌≤◌, ◌∙◌, ap, length, subst, List, ℕ}
use Rattle.std.specs.Prelude.{flat_map}
use Rattle.std.specs.List.{filter_map}
use Rattle.std.proofs.lemmas.List.{take_all}
use Rattle.vrt_profile.specs.Values.{BandValue}
use Rattle.catalog.specs.Gathered.{HasGathered}
use Rattle.catalog.specs.Mosaics.{source_name}
use Rattle.catalog.proofs.Listings.{band_next}
use Rattle.catalog.proofs.mosaic_head.mosaic_files.Goals as goal

pub loop-band-preserved : goal.loop-band-preserved
loop-band-preserved c =
    let bands = c.as_slice-band-items.ensures.items ∙ ap (λ d. d.bands) c.document.view_is in
    let sources = c.as_slice.ensures.items ∙ ap (λ (b : BandValue). b.sources) c.band.view_is in
    subst (λ (l : List (List ℕ)). HasGathered c.args.name.now l c.add_sources.new.gathered) (band_next c.args.name.now c.args.document.now.bands c.as_slice-band-items.result.now c.loop-band.band-index c.band-item.result c.as_slice.result.now bands sources c.loop-band-test.true c.band-item.is)
    (c.in_ok-add_sources.ensures.gathered c.args.name.now _ c.loop-band.invariant)

pub returns-clause-ok : goal.returns-clause-ok
returns-clause-ok c =
    let bands = c.as_slice-band-items.ensures.items ∙ ap (λ d. d.bands) c.document.view_is in
    let past : length c.args.document.now.bands ≤ c.loop-band.band-index = subst (λ (l : List BandValue). length l ≤ c.loop-band.band-index) bands c.loop-band-test.false in
    c.in_ok-listed.ensures.listed _
    (subst (λ (l : List BandValue). HasGathered c.args.name.now (filter_map (source_name c.args.name.now) (flat_map (λ b. b.sources) l)) c.loop-band.gathered) (take_all c.loop-band.band-index c.args.document.now.bands past) c.loop-band.invariant)
