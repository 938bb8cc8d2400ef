use Rattle.std.proofs.Common.{◌≡◌, ap, ◌∙◌, Ok, true, codes}
use Rattle.vrt_markup.specs.Items.{attribute}
use Rattle.vrt_markup.specs.Forest.{inner, read_as}
use Rattle.vrt_markup.specs.Kept.{seen, kept_of}
use Rattle.vrt_profile.specs.Means.{band_step, no_band_parts, kind_in, is_placed, is_sourced}
use Rattle.vrt_profile.specs.Seen.{band_by}
use Rattle.vrt_markup.specs.Views.{tag_view}
use Rattle.vrt_markup.proofs.Reading.{read_then}
use Rattle.vrt_profile.proofs.band.band_element.Goals as goal

pub returns-in-Ok-clause-band : goal.returns-in-Ok-clause-band
returns-in-Ok-clause-band c =
    let tag = tag_view c.args.tag in
    let inside = inner c.args.level.total c.args.level.depth tag c.args.bytes.now in
    let white = c.in-Ok.seen.white in
    let parts = kept_of c.children_of.new.parts c.in-Ok.seen.kept in
    let kind : c.kind_in-kind.result ≡ kind_in (attribute (codes "dataType") tag.pairs) = c.kind_in-kind.ensures.kind ∙ ap kind_in c.attribute.ensures.value in
    let placed : c.is_placed-placed.result ≡ is_placed c.args.number (attribute (codes "band") tag.pairs) = c.is_placed-placed.ensures.placed ∙ ap (is_placed c.args.number) c.attribute-2.ensures.value in
    let sourced : c.is_sourced-sourced.result ≡ is_sourced (attribute (codes "subClass") tag.pairs) = c.is_sourced-sourced.ensures.sourced ∙ ap is_sourced c.attribute-3.ensures.value in
    let read = c.in-Ok.ensures.seen ∙ ap (λ p. read_as (seen band_step (Ok p) true) inside) c.no_band_parts-parts.ensures.parts in
    ap (λ z. Ok (z, c.in-Ok.rest.now)) (c.band_by.ensures.band
    ∙ ap (λ k. band_by k c.is_placed-placed.result c.is_sourced-sourced.result white parts) kind
    ∙ ap (λ p. band_by (kind_in (attribute (codes "dataType") tag.pairs)) p c.is_sourced-sourced.result white parts) placed
    ∙ ap (λ s. band_by (kind_in (attribute (codes "dataType") tag.pairs)) (is_placed c.args.number (attribute (codes "band") tag.pairs)) s white parts) sourced)
    ∙ read_then (λ p. band_by (kind_in (attribute (codes "dataType") tag.pairs)) (is_placed c.args.number (attribute (codes "band") tag.pairs)) (is_sourced (attribute (codes "subClass") tag.pairs)) p.1 p.0) (seen band_step (Ok (no_band_parts c.args.taken)) true) (parts, white) c.in-Ok.rest.now inside read
