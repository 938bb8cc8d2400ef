use Rattle.std.proofs.Common.{ap, ◌∙◌, Ok, Some}
use Rattle.vrt_markup.specs.Forest.{inner}
use Rattle.vrt_markup.specs.Views.{tag_view}
use Rattle.vrt_markup.proofs.Reading.{read_then}
use Rattle.vrt_profile.specs.Means.{once, rect_of}
use Rattle.vrt_profile.proofs.rect.rect_child.Goals as goal

pub returns-in-Ok-clause-child : goal.returns-in-Ok-clause-child
returns-in-Ok-clause-child c =
    let rest = c.in-Ok.rest.now in
    ap (λ k. Ok (k, rest)) c.put_once.ensures.put
    ∙ read_then (λ r. once c.args.place.now r Some) (rect_of (tag_view c.args.tag)) c.in-Ok.rect rest (inner c.args.level.total c.args.level.depth (tag_view c.args.tag) c.args.bytes.now) c.in-Ok.ensures.rect
