use Rattle.std.proofs.Common.{◌≡◌, rules, arith, sym, ap, subst, ◌+◌, ◌∙◌, ◌<◌, Some}
use Rattle.std.specs.Prelude.{option_and_then, slice_get}
use Rattle.std.proofs.lemmas.Result.{IfOk-weaker}
use Rattle.catalog.specs.Dataset.{DatasetHead}
use Rattle.catalog.specs.Drivers.{Dataset}
use Rattle.catalog.specs.Links.{member_at}
use Rattle.nearest_window.specs.declared.picture.Picture.{Picture}
use Rattle.nearest_window.specs.Heights.{height_at}
use Rattle.nearest_window.specs.Shown.{IsPartSeen, IsPictureOf, IsSeenBy, IsUnseen, TakesBand}
use Rattle.nearest_window.proofs.Blocks.{head_of}
use Rattle.nearest_window.proofs.Naming.{seen_there, seen_falls, seen_takes, seen_by, unseen_by}
use Rattle.nearest_window.proofs.members.seen_in.Goals as goal

pub returns-then-misses-clause-none : goal.returns-then-misses-clause-none
returns-then-misses-clause-none c = λ e d at x y p q. c.misses.ensures.missed c.if-misses.true _ _ (c.args.rect.x + x) (c.args.rect.y + y) (omega arith) (omega arith) (omega arith) (omega arith)

pub returns-clause-none : goal.returns-clause-none
returns-clause-none c =
    let of = c.requires.source in
    let mosaic : (d : Dataset) → slice_get c.args.cat.now c.args.source.key.dataset ≡ Some d → d.head.size ≡ c.behind-cat.inside.size =
    λ d at. ap (λ (h : DatasetHead). h.size) (head_of (slice_get c.args.cat.now c.args.source.key.dataset) d c.head.result.now at c.head.ensures.head ∙ sym c.behind-cat.view_is) in
    IfOk-weaker c.picture_of.result _ _ (λ o unseen e. unseen_by c.args.cat.now c.head.ensures.valid c.args.source.key c.args.source.number c.args.source.source.now of c.member-member.result (sym (ap (option_and_then (λ d. member_at c.args.cat.now d c.args.source.key.band c.args.source.number)) of.in_range.at) ∙ c.member-member.ensures.member) c.behind-cat.inside.size c.head-2.result.now mosaic c.head-2.ensures.head c.args.rect (subst (λ size. IsUnseen c.args.source.source.now c.behind-cat.inside.size size c.args.rect) (ap (λ (h : DatasetHead). h.size) c.behind-cat-2.view_is) (unseen e))) c.picture_of.ensures.none

pub returns-clause-seen : goal.returns-clause-seen
returns-clause-seen c =
    let of = c.requires.source in
    let seen = c.picture_of.ensures.some in
    let mosaic : (d : Dataset) → slice_get c.args.cat.now c.args.source.key.dataset ≡ Some d → d.head.size ≡ c.head.result.now.size =
    λ d at. ap (λ (h : DatasetHead). h.size) (head_of (slice_get c.args.cat.now c.args.source.key.dataset) d c.head.result.now at c.head.ensures.head) in
    let each : (p : Picture) → IsPartSeen c.args.source.source.now c.head.result.now.size c.head-2.result.now.size c.member-member.result c.args.rect p → IsSeenBy c.args.cat.now c.args.source.key c.args.source.source.now c.args.rect p =
    λ p q. seen_by c.args.cat.now c.head.ensures.valid c.args.source.key c.args.source.number c.args.source.source.now of c.member-member.result (sym (ap (option_and_then (λ d. member_at c.args.cat.now d c.args.source.key.band c.args.source.number)) of.in_range.at) ∙ c.member-member.ensures.member) c.head.result.now.size c.head-2.result.now mosaic c.head-2.ensures.head c.args.rect p q in
    search (rules, each, seen)

pub returns-clause-picture : goal.returns-clause-picture
returns-clause-picture c =
    let of = c.requires.source in
    let seen = c.picture_of.ensures.some in
    let each : (p : Picture) → IsPartSeen c.args.source.source.now c.head.result.now.size c.head-2.result.now.size c.member-member.result c.args.rect p → IsPictureOf c.args.cat.now p =
    λ p q. seen_there c.args.cat.now c.head.ensures.valid c.args.source.key c.args.source.number c.args.source.source.now of c.member-member.result (sym (ap (option_and_then (λ d. member_at c.args.cat.now d c.args.source.key.band c.args.source.number)) of.in_range.at) ∙ c.member-member.ensures.member) c.head.result.now.size c.head-2.result.now c.head-2.ensures.head c.args.rect p q in
    search (rules, each, seen)

pub returns-clause-takes : goal.returns-clause-takes
returns-clause-takes c =
    let of = c.requires.source in
    let seen = c.picture_of.ensures.some in
    let each : (p : Picture) → IsPartSeen c.args.source.source.now c.head.result.now.size c.head-2.result.now.size c.member-member.result c.args.rect p → TakesBand c.args.cat.now c.args.source.source.now p =
    λ p q. seen_takes c.args.cat.now c.head.ensures.valid c.args.source.key c.args.source.number c.args.source.source.now of c.member-member.result (sym (ap (option_and_then (λ d. member_at c.args.cat.now d c.args.source.key.band c.args.source.number)) of.in_range.at) ∙ c.member-member.ensures.member) c.head.result.now.size c.head-2.result.now.size c.args.rect p q in
    search (rules, each, seen)

pub returns-clause-falls : goal.returns-clause-falls
returns-clause-falls c =
    let of = c.requires.source in
    let seen = c.picture_of.ensures.some in
    let each : (p : Picture) → IsPartSeen c.args.source.source.now c.head.result.now.size c.head-2.result.now.size c.member-member.result c.args.rect p → height_at c.args.cat.now p.dataset < height_at c.args.cat.now c.args.source.key.dataset =
    λ p q. seen_falls c.args.cat.now c.head.ensures.valid c.args.source.key c.args.source.number c.args.source.source.now of c.member-member.result (sym (ap (option_and_then (λ d. member_at c.args.cat.now d c.args.source.key.band c.args.source.number)) of.in_range.at) ∙ c.member-member.ensures.member) c.member-member.ensures.below c.head.result.now.size c.head-2.result.now.size c.args.rect p q in
    search (rules, each, seen)
