use Rattle.std.proofs.Common.{ap, ◌∙◌, Ok}
use Rattle.vrt_markup.specs.Forest.{inner}
use Rattle.vrt_markup.specs.Views.{tag_view}
use Rattle.vrt_markup.proofs.Reading.{read_then}
use Rattle.vrt_profile.specs.Means.{with_file, file_of}
use Rattle.vrt_profile.specs.SourceViews.{source_view}
use Rattle.vrt_profile.proofs.Once.{once_put}
use Rattle.vrt_profile.proofs.source.SourceParts.file_child.Goals as goal

pub returns-in-Ok-clause-child : goal.returns-in-Ok-clause-child
returns-in-Ok-clause-child c =
    let s = source_view c.args.self.now in
    let tag = tag_view c.args.tag in
    let rest = c.in-Ok.rest.now in
    ap (λ k. Ok (k, rest)) (once_put (λ o. record s { file = o }) s.file c.put_once.new.place c.in-Ok.file c.put_once.result c.put_once.ensures.put)
    ∙ read_then (with_file s) (file_of tag) c.in-Ok.file rest (inner c.args.level.total c.args.level.depth tag c.args.bytes.now) c.in-Ok.ensures.file
