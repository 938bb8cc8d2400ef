use Rattle.std.proofs.Common.{◌≡◌, ap, ◌∙◌, Ok, true, codes}
use Rattle.vrt_markup.specs.Items.{attribute}
use Rattle.vrt_markup.specs.Forest.{inner, read_as}
use Rattle.vrt_markup.specs.Kept.{seen, kept_of}
use Rattle.vrt_profile.specs.Means.{source_step, no_parts, is_nearest}
use Rattle.vrt_profile.specs.Seen.{source_by, one_more}
use Rattle.vrt_profile.specs.SourceViews.{source_view}
use Rattle.vrt_markup.specs.Views.{tag_view}
use Rattle.vrt_markup.proofs.Reading.{read_then, ok_value}
use Rattle.vrt_profile.proofs.source.source_element.Goals as goal

pub returns-in-Ok-push_seen-clause-source : goal.returns-in-Ok-push_seen-clause-source
returns-in-Ok-push_seen-clause-source c =
    let tag = tag_view c.args.tag in
    let sources = c.args.sources.now in
    let inside = inner c.args.level.total c.args.level.depth tag c.args.bytes.now in
    let rest = c.in-Ok.rest.now in
    let white = c.in-Ok.seen.white in
    let kept = kept_of (source_view c.children_of.new.parts) c.in-Ok.seen.kept in
    let near : c.is_nearest-near.result ≡ is_nearest (attribute (codes "resampling") tag.pairs) = c.is_nearest-near.ensures.near ∙ ap is_nearest c.attribute.ensures.value in
    let read = c.in-Ok.ensures.seen ∙ ap (λ p. read_as (seen (source_step p.complex) (Ok (source_view p)) true) inside) c.no_parts-parts.ensures.parts in
    ap (λ k. Ok (k, rest)) (ok_value (kept_of c.push_seen.new.sources c.in-Ok-push_seen.kept) (one_more sources (source_by c.args.complex c.is_nearest-near.result white kept)) c.in-Ok-push_seen.ensures.pushed
    ∙ ap (λ n. one_more sources (source_by c.args.complex n white kept)) near)
    ∙ read_then (λ p. one_more sources (source_by c.args.complex (is_nearest (attribute (codes "resampling") tag.pairs)) p.1 p.0)) (seen (source_step c.args.complex) (Ok no_parts) true) (kept, white) rest inside read
