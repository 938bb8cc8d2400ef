use Rattle.std.proofs.Common.{subst, Ok, Err}
use Rattle.vrt_markup.specs.Forest.{inner, read_as}
use Rattle.vrt_markup.specs.Kept.{Gives, kept_of}
use Rattle.vrt_markup.specs.Views.{tag_view}
use Rattle.vrt_markup.specs.declared.fault.VrtFault.TheVariants.{UnknownElement}
use Rattle.vrt_profile.specs.Means.{dataset_parts}
use Rattle.vrt_profile.specs.declared.elements.DatasetPart.{DatasetPart}
use Rattle.vrt_profile.proofs.Once.{past_gives}
use Rattle.vrt_profile.proofs.dataset.DatasetPartsParts.child.Goals as goal

pub returns-in-Srs-clause-child : goal.returns-in-Srs-clause-child
returns-in-Srs-clause-child c =
    let tag = tag_view c.args.tag in
    let s = c.args.self.now in
    let inside = inner c.args.level.total c.args.level.depth tag c.args.bytes.now in
    subst (λ (p : DatasetPart). Gives (λ x. (kept_of c.srs_child.new.self x.0, x.1.now)) c.srs_child.result (read_as (λ f. dataset_parts s c.args.place tag f p) inside)) c.in-Srs.ensures.part c.srs_child.ensures.child

pub returns-in-Geo-clause-child : goal.returns-in-Geo-clause-child
returns-in-Geo-clause-child c =
    let tag = tag_view c.args.tag in
    let s = c.args.self.now in
    let inside = inner c.args.level.total c.args.level.depth tag c.args.bytes.now in
    subst (λ (p : DatasetPart). Gives (λ x. (kept_of c.geo_child.new.self x.0, x.1.now)) c.geo_child.result (read_as (λ f. dataset_parts s c.args.place tag f p) inside)) c.in-Geo.ensures.part c.geo_child.ensures.child

pub returns-in-Band-clause-child : goal.returns-in-Band-clause-child
returns-in-Band-clause-child c =
    let tag = tag_view c.args.tag in
    let s = c.args.self.now in
    let inside = inner c.args.level.total c.args.level.depth tag c.args.bytes.now in
    subst (λ (p : DatasetPart). Gives (λ x. (kept_of c.band_child.new.self x.0, x.1.now)) c.band_child.result (read_as (λ f. dataset_parts s c.args.place tag f p) inside)) c.in-Band.ensures.part c.band_child.ensures.child

pub returns-in-Past-clause-child : goal.returns-in-Past-clause-child
returns-in-Past-clause-child c =
    let tag = tag_view c.args.tag in
    let s = c.args.self.now in
    let inside = inner c.args.level.total c.args.level.depth tag c.args.bytes.now in
    subst (λ (p : DatasetPart). Gives (λ x. (kept_of s x.0, x.1.now)) c.past_child.result (read_as (λ f. dataset_parts s c.args.place tag f p) inside)) c.in-Past.ensures.part
    (past_gives (λ y. y.now) s (Ok tt) c.past_child.result inside c.past_child.ensures.child)

pub returns-in-Unknown-clause-child : goal.returns-in-Unknown-clause-child
returns-in-Unknown-clause-child c =
    let tag = tag_view c.args.tag in
    let s = c.args.self.now in
    let inside = inner c.args.level.total c.args.level.depth tag c.args.bytes.now in
    subst (λ (p : DatasetPart). Gives (λ x. (kept_of s x.0, x.1.now)) c.past_child-in-Unknown.result (read_as (λ f. dataset_parts s c.args.place tag f p) inside)) c.in-Unknown.ensures.part
    (past_gives (λ y. y.now) s (Err (UnknownElement c.args.place)) c.past_child-in-Unknown.result inside c.past_child-in-Unknown.ensures.child)
