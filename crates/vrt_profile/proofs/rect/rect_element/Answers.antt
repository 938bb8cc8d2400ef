use Rattle.std.proofs.Common.{◌≡◌, ap, ◌∙◌, Ok, true, codes}
use Rattle.vrt_markup.specs.Items.{attribute}
use Rattle.vrt_markup.specs.Forest.{inner}
use Rattle.vrt_markup.specs.Kept.{seen, kept_of, no_child}
use Rattle.vrt_profile.specs.Numbers.{offset_in, size_in}
use Rattle.vrt_profile.specs.Means.{rect_of}
use Rattle.vrt_profile.specs.Seen.{rect_by}
use Rattle.vrt_markup.specs.Views.{tag_view}
use Rattle.vrt_markup.proofs.Reading.{read_then}
use Rattle.vrt_profile.proofs.rect.rect_element.Goals as goal

pub returns-in-Ok-clause-rect : goal.returns-in-Ok-clause-rect
unfolding rect_of rect_by
returns-in-Ok-clause-rect c =
    let tag = tag_view c.args.tag in
    let inside = inner c.args.level.total c.args.level.depth tag c.args.bytes.now in
    let white = c.in-Ok.seen.white in
    let children = kept_of true c.in-Ok.seen.kept in
    let x : c.offset_in-x.result ≡ offset_in (attribute (codes "xOff") tag.pairs) = c.offset_in-x.ensures.number ∙ ap offset_in c.rect_texts-texts.ensures.x in
    let y : c.offset_in-y.result ≡ offset_in (attribute (codes "yOff") tag.pairs) = c.offset_in-y.ensures.number ∙ ap offset_in c.rect_texts-texts.ensures.y in
    let w : c.size_in-w.result ≡ size_in (attribute (codes "xSize") tag.pairs) = c.size_in-w.ensures.number ∙ ap size_in c.rect_texts-texts.ensures.w in
    let h : c.size_in-h.result ≡ size_in (attribute (codes "ySize") tag.pairs) = c.size_in-h.ensures.number ∙ ap size_in c.rect_texts-texts.ensures.h in
    ap (λ z. Ok (z, c.in-Ok.rest.now)) (c.rect_by.ensures.rect
    ∙ ap (λ n. rect_by n c.offset_in-y.result c.size_in-w.result c.size_in-h.result white children) x
    ∙ ap (λ n. rect_by (offset_in (attribute (codes "xOff") tag.pairs)) n c.size_in-w.result c.size_in-h.result white children) y
    ∙ ap (λ n. rect_by (offset_in (attribute (codes "xOff") tag.pairs)) (offset_in (attribute (codes "yOff") tag.pairs)) n c.size_in-h.result white children) w
    ∙ ap (λ n. rect_by (offset_in (attribute (codes "xOff") tag.pairs)) (offset_in (attribute (codes "yOff") tag.pairs)) (size_in (attribute (codes "xSize") tag.pairs)) n white children) h)
    ∙ read_then (λ p. rect_by (offset_in (attribute (codes "xOff") tag.pairs)) (offset_in (attribute (codes "yOff") tag.pairs)) (size_in (attribute (codes "xSize") tag.pairs)) (size_in (attribute (codes "ySize") tag.pairs)) p.1 p.0) (seen no_child (Ok true) true) (children, white) c.in-Ok.rest.now inside c.in-Ok.ensures.seen
