use Rattle.std.proofs.Common.{◌≡◌, ap, ◌∙◌, Ok, true, codes}
use Rattle.vrt_markup.specs.Items.{attribute, is_some}
use Rattle.vrt_markup.specs.Forest.{inner, read_as}
use Rattle.vrt_markup.specs.Kept.{seen, kept_of}
use Rattle.vrt_profile.specs.Numbers.{side_in}
use Rattle.vrt_profile.specs.Means.{dataset_step, no_dataset_parts, dataset_of}
use Rattle.vrt_profile.specs.Seen.{dataset_by}
use Rattle.vrt_markup.specs.Views.{tag_view}
use Rattle.vrt_markup.proofs.Reading.{read_then}
use Rattle.vrt_profile.proofs.dataset.dataset_element.Goals as goal

pub returns-in-Ok-clause-dataset : goal.returns-in-Ok-clause-dataset
unfolding dataset_of dataset_by
returns-in-Ok-clause-dataset c =
    let tag = tag_view c.args.tag in
    let inside = inner c.args.level.total c.args.level.depth tag c.args.bytes.now in
    let white = c.in-Ok.seen.white in
    let parts = kept_of c.children_of.new.parts c.in-Ok.seen.kept in
    let w : c.side_in-w.result ≡ side_in (attribute (codes "rasterXSize") tag.pairs) = c.side_in-w.ensures.side ∙ ap side_in c.attribute.ensures.value in
    let h : c.side_in-h.result ≡ side_in (attribute (codes "rasterYSize") tag.pairs) = c.side_in-h.ensures.side ∙ ap side_in c.attribute-2.ensures.value in
    let derived : c.is_derived-derived.result ≡ is_some (attribute (codes "subClass") tag.pairs) = c.is_derived-derived.ensures.derived ∙ ap is_some c.attribute-3.ensures.value in
    let read = c.in-Ok.ensures.seen ∙ ap (λ p. read_as (seen dataset_step (Ok p) true) inside) c.no_dataset_parts-parts.ensures.parts in
    ap (λ z. Ok (z, c.in-Ok.rest.now)) (c.dataset_by.ensures.document
    ∙ ap (λ n. dataset_by n c.side_in-h.result c.is_derived-derived.result white parts) w
    ∙ ap (λ n. dataset_by (side_in (attribute (codes "rasterXSize") tag.pairs)) n c.is_derived-derived.result white parts) h
    ∙ ap (λ d. dataset_by (side_in (attribute (codes "rasterXSize") tag.pairs)) (side_in (attribute (codes "rasterYSize") tag.pairs)) d white parts) derived)
    ∙ read_then (λ p. dataset_by (side_in (attribute (codes "rasterXSize") tag.pairs)) (side_in (attribute (codes "rasterYSize") tag.pairs)) (is_some (attribute (codes "subClass") tag.pairs)) p.1 p.0) (seen dataset_step (Ok no_dataset_parts) true) (parts, white) c.in-Ok.rest.now inside read
