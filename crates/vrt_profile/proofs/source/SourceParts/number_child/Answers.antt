use Rattle.std.proofs.Common.{ap, ◌∙◌, Ok, [], None}
use Rattle.vrt_markup.specs.Forest.{inner}
use Rattle.vrt_markup.specs.Kept.{worded, kept_of}
use Rattle.vrt_markup.specs.Views.{plain_text, tag_view, text_view}
use Rattle.vrt_markup.proofs.Reading.{read_then, ok_value}
use Rattle.vrt_profile.specs.Means.{number_parts}
use Rattle.vrt_profile.specs.SourceViews.{source_view}
use Rattle.vrt_profile.proofs.source.SourceParts.number_child.Goals as goal

pub returns-in-Ok-put_number-clause-child : goal.returns-in-Ok-put_number-clause-child
returns-in-Ok-put_number-clause-child c =
    let s = source_view c.args.self.now in
    let words = c.in-Ok.words in
    let rest = c.in-Ok.rest.now in
    ap (λ k. Ok (k, rest)) (ok_value (kept_of (source_view c.put_number.new.self) c.in-Ok-put_number.kept) (number_parts s (plain_text words.text) words.child c.args.part) c.in-Ok-put_number.ensures.parts)
    ∙ read_then (λ w. number_parts s w.0 w.1 c.args.part) (worded [] None) (text_view words) rest (inner c.args.level.total c.args.level.depth (tag_view c.args.tag) c.args.bytes.now) c.in-Ok.ensures.text
