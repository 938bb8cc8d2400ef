use Rattle.std.proofs.Common.{◌≡◌, ap, ◌∙◌, Ok, [], None, codes}
use Rattle.vrt_markup.specs.Items.{attribute}
use Rattle.vrt_markup.specs.Forest.{inner}
use Rattle.vrt_markup.specs.Kept.{worded}
use Rattle.vrt_markup.specs.Views.{plain_text, tag_view, text_view}
use Rattle.vrt_markup.proofs.Reading.{read_then, ok_value}
use Rattle.vrt_profile.specs.Means.{flag_in}
use Rattle.vrt_profile.specs.Seen.{file_by}
use Rattle.vrt_profile.proofs.source.file_element.Goals as goal

pub returns-in-Ok-file_by-clause-file : goal.returns-in-Ok-file_by-clause-file
returns-in-Ok-file_by-clause-file c =
    let tag = tag_view c.args.tag in
    let words = c.in-Ok.words in
    let rest = c.in-Ok.rest.now in
    let flag : c.flag_in-flag.result ≡ flag_in (attribute (codes "relativeToVRT") tag.pairs) = c.flag_in-flag.ensures.flag ∙ ap flag_in c.attribute.ensures.value in
    ap (λ z. Ok (z, rest)) (ok_value c.in-Ok-file_by.file (file_by c.flag_in-flag.result (plain_text words.text) words.child) c.in-Ok-file_by.ensures.file
    ∙ ap (λ r. file_by r (plain_text words.text) words.child) flag)
    ∙ read_then (λ w. file_by (flag_in (attribute (codes "relativeToVRT") tag.pairs)) w.0 w.1) (worded [] None) (text_view words) rest (inner c.args.level.total c.args.level.depth tag c.args.bytes.now) c.in-Ok.ensures.text
