use Rattle.std.proofs.Common.{ap, ◌∙◌, Ok, [], None}
use Rattle.vrt_markup.specs.Forest.{inner}
use Rattle.vrt_markup.specs.Kept.{worded}
use Rattle.vrt_markup.specs.Views.{tag_view, text_view}
use Rattle.vrt_markup.proofs.Reading.{read_then}
use Rattle.vrt_profile.specs.Means.{BandParts, with_no_data_value, nodata_by}
use Rattle.vrt_profile.proofs.Once.{once_put}
use Rattle.vrt_profile.proofs.band.BandParts.nodata_child.Goals as goal
use Rattle.vrt_profile.proofs.band.BandParts.nodata_child.Goals.{in-Own-1, in-Lent-1}

pub returns-in-Ok-clause-child : goal.returns-in-Ok-clause-child
returns-in-Ok-clause-child c =
    let s : BandParts = record { taken = c.self.inside.taken; nodata = c.self.inside.nodata; sources = c.self.inside.sources } in
    let words = c.in-Ok.words in
    let rest = c.in-Ok.rest.now in
    let put =
    ap (λ k. Ok (k, rest)) (once_put (λ o. record s { nodata = o }) s.nodata c.put_once.new.place c.nodata_by.result c.put_once.result c.put_once.ensures.put
    ∙ ap (λ p. with_no_data_value p c.nodata_by.result) c.self.view_is
    ∙ ap (with_no_data_value c.args.self.now) c.nodata_by.ensures.nodata)
    ∙ read_then (λ w. with_no_data_value c.args.self.now (nodata_by w.0 w.1)) (worded [] None) (text_view words) rest (inner c.args.level.total c.args.level.depth (tag_view c.args.tag) c.args.bytes.now) c.in-Ok.ensures.text
    in
    elim c.match-words.branch [ in-Own-1 w ↦ rw w.self-is put | in-Lent-1 w ↦ rw w.self-is put ]
