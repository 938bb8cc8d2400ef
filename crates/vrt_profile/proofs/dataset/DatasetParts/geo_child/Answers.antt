use Rattle.std.proofs.Common.{ap, ◌∙◌, Ok, [], None}
use Rattle.vrt_markup.specs.Forest.{inner}
use Rattle.vrt_markup.specs.Kept.{worded}
use Rattle.vrt_markup.specs.Views.{tag_view, text_view}
use Rattle.vrt_markup.proofs.Reading.{read_then}
use Rattle.vrt_profile.specs.Means.{DatasetParts, with_geo, geo_by}
use Rattle.vrt_profile.specs.Values.{IsDecimal}
use Rattle.vrt_profile.proofs.Once.{once_put, put_keeps}
use Rattle.vrt_profile.proofs.dataset.DatasetParts.geo_child.Goals as goal
use Rattle.vrt_profile.proofs.dataset.DatasetParts.geo_child.Goals.{in-Own-1, in-Lent-1}

pub invariant_of-self : goal.invariant_of-self
invariant_of-self c =
    let p = c.self.invariant in
    record {
      srs = p.srs;
      geo = put_keeps IsDecimal c.self.inside.geo c.put_once.new.place c.geo_by.result c.put_once.result c.put_once.ensures.put c.put_once.ensures.err p.geo c.geo_by.ensures.decimal;
      few = p.few;
      counted = p.counted;
      sources = p.sources;
      bands = p.bands;
    }

pub returns-in-Ok-clause-child : goal.returns-in-Ok-clause-child
returns-in-Ok-clause-child c =
    let s : DatasetParts = record { srs = c.self.inside.srs; geo = c.self.inside.geo; bands = c.self.inside.bands; taken = c.self.inside.taken } in
    let words = c.in-Ok.words in
    let rest = c.in-Ok.rest.now in
    let put =
    ap (λ k. Ok (k, rest)) (once_put (λ o. record s { geo = o }) s.geo c.put_once.new.place c.geo_by.result c.put_once.result c.put_once.ensures.put
    ∙ ap (λ p. with_geo p c.geo_by.result) c.self.view_is
    ∙ ap (with_geo c.args.self.now) c.geo_by.ensures.geo)
    ∙ read_then (λ w. with_geo c.args.self.now (geo_by w.0 w.1)) (worded [] None) (text_view words) rest (inner c.args.level.total c.args.level.depth (tag_view c.args.tag) c.args.bytes.now) c.in-Ok.ensures.text
    in
    elim c.match-words.branch [ in-Own-1 w ↦ rw w.self-is put | in-Lent-1 w ↦ rw w.self-is put ]
