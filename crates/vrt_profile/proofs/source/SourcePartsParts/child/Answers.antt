use Rattle.std.proofs.Common.{subst, Ok, Err, Option}
use Rattle.vrt_markup.specs.Forest.{inner, read_as}
use Rattle.vrt_markup.specs.Kept.{Gives, kept_of}
use Rattle.vrt_markup.specs.Views.{tag_view}
use Rattle.vrt_markup.specs.declared.fault.VrtFault.TheVariants.{UnknownElement}
use Rattle.vrt_profile.specs.Means.{SourceParts, source_parts, rect_of}
use Rattle.vrt_profile.specs.SourceViews.{source_view}
use Rattle.vrt_profile.specs.Values.{Rectangle}
use Rattle.vrt_profile.specs.declared.elements.SourcePart.{SourcePart}
use Rattle.vrt_profile.proofs.Once.{put_gives, past_gives}
use Rattle.vrt_profile.proofs.source.SourcePartsParts.child.Goals as goal

pub returns-in-File-clause-child : goal.returns-in-File-clause-child
returns-in-File-clause-child c =
    let tag = tag_view c.args.tag in
    let s = source_view c.args.self.now in
    let inside = inner c.args.level.total c.args.level.depth tag c.args.bytes.now in
    subst (λ (p : SourcePart). Gives (λ x. (kept_of (source_view c.file_child.new.self) x.0, x.1.now)) c.file_child.result (read_as (λ f. source_parts s c.args.place tag f p) inside)) c.in-File.ensures.part c.file_child.ensures.child

pub returns-in-Src-clause-child : goal.returns-in-Src-clause-child
returns-in-Src-clause-child c =
    let tag = tag_view c.args.tag in
    let s = source_view c.args.self.now in
    let inside = inner c.args.level.total c.args.level.depth tag c.args.bytes.now in
    let all : Option Rectangle → SourceParts = λ o. record s { src = o } in
    subst (λ (p : SourcePart). Gives (λ x. (kept_of (all c.rect_child.new.place) x.0, x.1.now)) c.rect_child.result (read_as (λ f. source_parts s c.args.place tag f p) inside)) c.in-Src.ensures.part
    (put_gives (λ y. y.now) all s.src c.rect_child.new.place (rect_of tag) c.rect_child.result inside c.rect_child.ensures.child)

pub returns-in-Dst-clause-child : goal.returns-in-Dst-clause-child
returns-in-Dst-clause-child c =
    let tag = tag_view c.args.tag in
    let s = source_view c.args.self.now in
    let inside = inner c.args.level.total c.args.level.depth tag c.args.bytes.now in
    let all : Option Rectangle → SourceParts = λ o. record s { dst = o } in
    subst (λ (p : SourcePart). Gives (λ x. (kept_of (all c.rect_child-in-Dst.new.place) x.0, x.1.now)) c.rect_child-in-Dst.result (read_as (λ f. source_parts s c.args.place tag f p) inside)) c.in-Dst.ensures.part
    (put_gives (λ y. y.now) all s.dst c.rect_child-in-Dst.new.place (rect_of tag) c.rect_child-in-Dst.result inside c.rect_child-in-Dst.ensures.child)

pub returns-in-Number-clause-child : goal.returns-in-Number-clause-child
returns-in-Number-clause-child c =
    let tag = tag_view c.args.tag in
    let s = source_view c.args.self.now in
    let inside = inner c.args.level.total c.args.level.depth tag c.args.bytes.now in
    subst (λ (p : SourcePart). Gives (λ x. (kept_of (source_view c.number_child.new.self) x.0, x.1.now)) c.number_child.result (read_as (λ f. source_parts s c.args.place tag f p) inside)) c.in-Number.ensures.part c.number_child.ensures.child

pub returns-in-Past-clause-child : goal.returns-in-Past-clause-child
returns-in-Past-clause-child c =
    let tag = tag_view c.args.tag in
    let s = source_view c.args.self.now in
    let inside = inner c.args.level.total c.args.level.depth tag c.args.bytes.now in
    subst (λ (p : SourcePart). Gives (λ x. (kept_of s x.0, x.1.now)) c.past_child.result (read_as (λ f. source_parts s c.args.place tag f p) inside)) c.in-Past.ensures.part
    (past_gives (λ y. y.now) s (Ok tt) c.past_child.result inside c.past_child.ensures.child)

pub returns-in-Unknown-clause-child : goal.returns-in-Unknown-clause-child
returns-in-Unknown-clause-child c =
    let tag = tag_view c.args.tag in
    let s = source_view c.args.self.now in
    let inside = inner c.args.level.total c.args.level.depth tag c.args.bytes.now in
    subst (λ (p : SourcePart). Gives (λ x. (kept_of s x.0, x.1.now)) c.past_child-in-Unknown.result (read_as (λ f. source_parts s c.args.place tag f p) inside)) c.in-Unknown.ensures.part
    (past_gives (λ y. y.now) s (Err (UnknownElement c.args.place)) c.past_child-in-Unknown.result inside c.past_child-in-Unknown.ensures.child)
