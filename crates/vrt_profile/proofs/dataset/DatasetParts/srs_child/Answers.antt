use Rattle.std.proofs.Common.{ap, ◌∙◌, Ok, [], None, IsUtf8}
use Rattle.vrt_markup.specs.Forest.{inner}
use Rattle.vrt_markup.specs.Kept.{worded}
use Rattle.vrt_markup.specs.Views.{plain_text, tag_view, text_view}
use Rattle.vrt_markup.proofs.Reading.{read_then, ok_value}
use Rattle.vrt_profile.specs.Means.{DatasetParts, with_srs, srs_by}
use Rattle.vrt_profile.proofs.Once.{once_put, put_keeps}
use Rattle.vrt_profile.proofs.dataset.DatasetParts.srs_child.Goals as goal

pub invariant_of-self : goal.invariant_of-self
invariant_of-self c =
    let p = c.self.invariant in
    record {
      srs = put_keeps IsUtf8 c.self.inside.srs c.put_once.new.place c.in-Ok-text_by.srs c.put_once.result c.put_once.ensures.put c.put_once.ensures.err p.srs c.in-Ok-text_by.ensures.utf8;
      geo = p.geo;
      few = p.few;
      counted = p.counted;
      sources = p.sources;
      bands = p.bands;
    }

pub returns-in-Ok-text_by-clause-child : goal.returns-in-Ok-text_by-clause-child
returns-in-Ok-text_by-clause-child c =
    let s : DatasetParts = record { srs = c.self.inside.srs; geo = c.self.inside.geo; bands = c.self.inside.bands; taken = c.self.inside.taken } in
    let words = c.in-Ok.words in
    let rest = c.in-Ok.rest.now in
    let srs = c.in-Ok-text_by.srs in
    ap (λ k. Ok (k, rest)) (once_put (λ o. record s { srs = o }) s.srs c.put_once.new.place srs c.put_once.result c.put_once.ensures.put
    ∙ ap (λ p. with_srs p srs) c.self.view_is
    ∙ ap (with_srs c.args.self.now) (ok_value srs (srs_by (plain_text words.text) words.child) c.in-Ok-text_by.ensures.text))
    ∙ read_then (λ w. with_srs c.args.self.now (srs_by w.0 w.1)) (worded [] None) (text_view words) rest (inner c.args.level.total c.args.level.depth (tag_view c.args.tag) c.args.bytes.now) c.in-Ok.ensures.text
