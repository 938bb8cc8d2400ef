use Rattle.std.proofs.Common.{rules, arith, refl, ◌≡◌, ◌*◌, ◌≤◌, length}
use Rattle.std.proofs.lemmas.Grind.{common_steps}
use Rattle.std.proofs.Math.Nat.{mul-le-mul}
use Rattle.nearest_window.proofs.Asks.{unseen_unasked, ends_below, asked_is}
use Rattle.nearest_window.proofs.asking.asked_of.Goals as goal

pub returns-in_default-clause-none : goal.returns-in_default-clause-none
returns-in_default-clause-none c = λ e d at. unseen_unasked c.args.source.source.now d.head.size _ c.args.canvas.now (c.in_ok-picture.ensures.none c.in_default.is d at)

pub overflow_add-part : goal.overflow_add-part
overflow_add-part c =
    let of = c.requires.source in
    let ends = ends_below c.args.cat.now c.args.source.key.dataset of.dataset c.args.canvas.now.rect c.count-count.ensures.valid of.in_range.at (c.requires.within of.dataset of.in_range.at) in
    let seen = rw c.in-Some.is at c.in_ok-picture.ensures.seen in
    let here = seen.seen of.dataset of.in_range.at in
    let i = here.across.inside in
    let e = ends.0 in
    record { fits = omega arith }

pub overflow_add-part-2 : goal.overflow_add-part-2
overflow_add-part-2 c =
    let of = c.requires.source in
    let ends = ends_below c.args.cat.now c.args.source.key.dataset of.dataset c.args.canvas.now.rect c.count-count.ensures.valid of.in_range.at (c.requires.within of.dataset of.in_range.at) in
    let seen = rw c.in-Some.is at c.in_ok-picture.ensures.seen in
    let here = seen.seen of.dataset of.in_range.at in
    let i = here.down.inside in
    let e = ends.1 in
    record { fits = omega arith }

pub overflow_mul-part : goal.overflow_mul-part
overflow_mul-part c =
    let of = c.requires.source in
    let few = c.requires.canvas.few in
    let seen = rw c.in-Some.is at c.in_ok-picture.ensures.seen in
    let here = seen.seen of.dataset of.in_range.at in
    let i = here.across.inside in
    let j = here.down.inside in
    let big : c.in-Some.picture.width * c.in-Some.picture.height ≤ c.args.canvas.now.rect.w * c.args.canvas.now.rect.h = mul-le-mul (omega arith) (omega arith) in
    record { fits = omega arith }

pub returns-clause-asked : goal.returns-clause-asked
returns-clause-asked c =
    let seen = rw c.in-Some.is at c.in_ok-picture.ensures.seen in
    let known = rw c.in-Some.is at c.in_ok-picture.ensures.picture in
    let takes = rw c.in-Some.is at c.in_ok-picture.ensures.takes in
    let falls = rw c.in-Some.is at c.in_ok-picture.ensures.falls in
    let o = c.picture_alone.ensures in
    let room : length c.in_ok-pixels.pixels.items ≡ c.in-Some.picture.width * c.in-Some.picture.height = first_of (search rules, grind (arith, common_steps)) in
    asked_is c.args.cat.now c.args.source.key c.args.source.number c.args.source.source.now c.args.canvas.now c.in-Some.picture c.picture_alone.result _ c.requires.source seen known takes falls
    o.dataset o.band o.taking o.width o.columns o.height o.lines o.to o.stride refl refl refl refl refl room
