use Rattle.std.proofs.Common.{ap, ◌∙◌, Ok, suc, ◌≤◌, ◌+◌, length, subst, IfOk}
use Rattle.vrt_markup.specs.Forest.{inner, read_as}
use Rattle.vrt_markup.specs.Kept.{kept_of}
use Rattle.vrt_markup.specs.Views.{tag_view}
use Rattle.vrt_markup.proofs.Reading.{read_then, ok_value}
use Rattle.vrt_profile.specs.Means.{with_raster_band, band_of}
use Rattle.vrt_profile.proofs.Counts.{bands_fit}
use Rattle.vrt_profile.proofs.dataset.DatasetParts.band_child.Goals as goal

pub add_band-requires : goal.add_band-requires
add_band-requires c =
    let tag = tag_view c.args.tag in
    record {
      fits = subst (λ n. IfOk c.in-Ok.band (λ b. n + length b.sources ≤ 262144)) c.counts-number.ensures.taken
          (bands_fit c.counts-number.result.0 c.counts-number.result.1 tag c.in-Ok.band c.in-Ok.rest.now (inner c.args.level.total c.args.level.depth tag c.args.bytes.now) c.counts-number.ensures.bound c.in-Ok.ensures.band);
    }

pub returns-in-Ok-add_band-clause-child : goal.returns-in-Ok-add_band-clause-child
returns-in-Ok-add_band-clause-child c =
    let tag = tag_view c.args.tag in
    let s = c.args.self.now in
    let rest = c.in-Ok.rest.now in
    let inside = inner c.args.level.total c.args.level.depth tag c.args.bytes.now in
    ap (λ k. Ok (k, rest)) (ok_value (kept_of c.add_band.new.self c.in-Ok-add_band.kept) (with_raster_band s c.in-Ok.band) c.in-Ok-add_band.ensures.parts)
    ∙ read_then (with_raster_band s) (band_of c.counts-number.result.0 c.counts-number.result.1 tag) c.in-Ok.band rest inside c.in-Ok.ensures.band
    ∙ ap (λ n. read_as (λ f. with_raster_band s (band_of n c.counts-number.result.1 tag f)) inside) c.counts-number.ensures.number
    ∙ ap (λ n. read_as (λ f. with_raster_band s (band_of (suc (length s.bands)) n tag f)) inside) c.counts-number.ensures.taken
