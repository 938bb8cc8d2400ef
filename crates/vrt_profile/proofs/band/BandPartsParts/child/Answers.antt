use Rattle.std.proofs.Common.{subst, Ok, Err}
use Rattle.vrt_markup.specs.Forest.{inner, read_as}
use Rattle.vrt_markup.specs.Kept.{Gives, kept_of}
use Rattle.vrt_markup.specs.Views.{tag_view}
use Rattle.vrt_markup.specs.declared.fault.VrtFault.TheVariants.{UnknownElement}
use Rattle.vrt_profile.specs.Means.{band_parts}
use Rattle.vrt_profile.specs.declared.elements.BandPart.{BandPart}
use Rattle.vrt_profile.proofs.Once.{past_gives}
use Rattle.vrt_profile.proofs.band.BandPartsParts.child.Goals as goal

pub returns-in-NoData-clause-child : goal.returns-in-NoData-clause-child
returns-in-NoData-clause-child c =
    let tag = tag_view c.args.tag in
    let s = c.args.self.now in
    let inside = inner c.args.level.total c.args.level.depth tag c.args.bytes.now in
    subst (λ (p : BandPart). Gives (λ x. (kept_of c.nodata_child.new.self x.0, x.1.now)) c.nodata_child.result (read_as (λ f. band_parts s c.args.place tag f p) inside)) c.in-NoData.ensures.part c.nodata_child.ensures.child

pub returns-in-Simple-clause-child : goal.returns-in-Simple-clause-child
returns-in-Simple-clause-child c =
    let tag = tag_view c.args.tag in
    let s = c.args.self.now in
    let inside = inner c.args.level.total c.args.level.depth tag c.args.bytes.now in
    subst (λ (p : BandPart). Gives (λ x. (kept_of c.source_child.new.self x.0, x.1.now)) c.source_child.result (read_as (λ f. band_parts s c.args.place tag f p) inside)) c.in-Simple.ensures.part c.source_child.ensures.child

pub returns-in-Complex-clause-child : goal.returns-in-Complex-clause-child
returns-in-Complex-clause-child c =
    let tag = tag_view c.args.tag in
    let s = c.args.self.now in
    let inside = inner c.args.level.total c.args.level.depth tag c.args.bytes.now in
    subst (λ (p : BandPart). Gives (λ x. (kept_of c.source_child-in-Complex.new.self x.0, x.1.now)) c.source_child-in-Complex.result (read_as (λ f. band_parts s c.args.place tag f p) inside)) c.in-Complex.ensures.part c.source_child-in-Complex.ensures.child

pub returns-in-Past-clause-child : goal.returns-in-Past-clause-child
returns-in-Past-clause-child c =
    let tag = tag_view c.args.tag in
    let s = c.args.self.now in
    let inside = inner c.args.level.total c.args.level.depth tag c.args.bytes.now in
    subst (λ (p : BandPart). Gives (λ x. (kept_of s x.0, x.1.now)) c.past_child.result (read_as (λ f. band_parts s c.args.place tag f p) inside)) c.in-Past.ensures.part
    (past_gives (λ y. y.now) s (Ok tt) c.past_child.result inside c.past_child.ensures.child)

pub returns-in-Unknown-clause-child : goal.returns-in-Unknown-clause-child
returns-in-Unknown-clause-child c =
    let tag = tag_view c.args.tag in
    let s = c.args.self.now in
    let inside = inner c.args.level.total c.args.level.depth tag c.args.bytes.now in
    subst (λ (p : BandPart). Gives (λ x. (kept_of s x.0, x.1.now)) c.past_child-in-Unknown.result (read_as (λ f. band_parts s c.args.place tag f p) inside)) c.in-Unknown.ensures.part
    (past_gives (λ y. y.now) s (Err (UnknownElement c.args.place)) c.past_child-in-Unknown.result inside c.past_child-in-Unknown.ensures.child)
