use Rattle.std.proofs.Common.{◌≡◌, ◌∙◌, ◌+◌, ◌-◌, ◌<◌, [], ap, refl, sym, subst, arith, get_or, length, ℕ, Option}
use Rattle.std.proofs.lemmas.List.{get_or_default}
use Rattle.outside.specs.Outside.{Files}
use Rattle.output_copies.specs.Copying.{TellsChange}
use Rattle.output_copies.specs.Filled.{IsFilled}
use Rattle.output_copies.specs.Packed.{place_in, IsMade, IsPackedAt}
use Rattle.output_copies.proofs.Changes.{handed_on}
use Rattle.output_copies.proofs.Copied.{filled_next, filled_to}
use Rattle.output_copies.proofs.Packs.{place_within}
use Rattle.output_copies.proofs.packed.write_bands.Goals as goal

pub loop-band-init : goal.loop-band-init
loop-band-init g c =
    let t = c.args.task.now.translation.now in
    record {
      filled = filled_to (g.F.Folder.names c.args.folder.now) t.cat t.id t.plan c.rules.ensures.kept c.args.target.now c.args.y c.args.y (c.args.y + 1) c.requires.filled;
      empty = c.requires.empty;
      name = refl;
      names = refl;
      later = omega arith;
    }

pub bounds-packed-place : goal.bounds-packed-place
bounds-packed-place g c =
    let p = c.args.task.now.translation.now.plan in
    let within = place_within (length p.bands) c.loop-band.band (c.args.y - c.args.top) c.args.task.now.rows (omega (arith, c.loop-band-test.true, c.count-bands.ensures.count)) (omega (arith, c.requires.few, c.requires.top)) in
    let place : c.place_of-place.result ≡ place_in (length c.args.task.now.translation.now.plan.bands) c.loop-band.band (c.args.y - c.args.top) = c.place_of-place.ensures.place ∙ ap (λ n. place_in n c.loop-band.band (c.args.y - c.args.top)) c.count-bands.ensures.count in
    omega (arith, within, place, c.requires.long)

pub write_line-requires-clause-bytes : goal.write_line-requires-clause-bytes
write_line-requires-clause-bytes g c κs within =
    let t = c.args.task.now.translation.now in
    let k = c.loop-band.band in
    let has_band : c.loop-band.band < length t.plan.bands = omega (arith, c.loop-band-test.true, c.count-bands.ensures.count) in
    let below = place_within (length t.plan.bands) k (c.args.y - c.args.top) c.args.task.now.rows has_band (omega (arith, c.requires.few, c.requires.top)) in
    let place : c.place_of-place.result ≡ place_in (length t.plan.bands) c.loop-band.band (c.args.y - c.args.top) = c.place_of-place.ensures.place ∙ ap (λ n. place_in n c.loop-band.band (c.args.y - c.args.top)) c.count-bands.ensures.count in
    let inside : c.place_of-place.result < length c.args.packed.now = omega (arith, below, place, c.requires.long) in
    let line : c.index-packed-place.result ≡ get_or c.args.packed.now (place_in (length t.plan.bands) c.loop-band.band (c.args.y - c.args.top)) [] =
    c.index-packed-place.is ∙ get_or_default c.args.packed.now c.place_of-place.result c.index-packed-place.result [] inside ∙ ap (λ n. get_or c.args.packed.now n []) place in
    subst (IsPackedAt (g.F.Folder.names c.loop-band.folder) t.cat t.id t.plan c.args.task.now.packing k c.args.y) (sym line)
    (subst (λ (o : Option Files). IsMade o t.cat t.id t.plan c.args.task.now.packing c.args.top c.args.packed.now k c.args.y) (sym c.loop-band.invariant.names) (c.requires.made.above k c.args.y has_band c.requires.top (omega arith)))

pub write_line-requires-clause-long : goal.write_line-requires-clause-long
write_line-requires-clause-long g c κs within =
    let p = c.args.task.now.translation.now.plan in
    let below = place_within (length p.bands) c.loop-band.band (c.args.y - c.args.top) c.args.task.now.rows (omega (arith, c.loop-band-test.true, c.count-bands.ensures.count)) (omega (arith, c.requires.few, c.requires.top)) in
    let place : c.place_of-place.result ≡ place_in (length c.args.task.now.translation.now.plan.bands) c.loop-band.band (c.args.y - c.args.top) = c.place_of-place.ensures.place ∙ ap (λ n. place_in n c.loop-band.band (c.args.y - c.args.top)) c.count-bands.ensures.count in
    ap length c.index-packed-place.is ∙ c.requires.each c.place_of-place.result c.index-packed-place.result (omega (arith, below, place, c.requires.long))

pub returns-clause-filled : goal.returns-clause-filled
returns-clause-filled g c =
    let t = c.args.task.now.translation.now in
    let before = c.loop-band.invariant in
    let all : c.loop-band.band ≡ length t.plan.bands = omega (arith, c.count-bands.ensures.count, c.loop-band-test.false, c.loop-band.auto.band-end) in
    subst (λ (o : Option Files). IsFilled o t.cat t.id t.plan c.loop-band.target (c.args.y + 1) (c.args.y + 1) 0) (sym before.names)
    (filled_next (g.F.Folder.names c.args.folder.now) t.cat t.id t.plan c.rules.ensures.kept c.loop-band.target c.args.y (c.args.y + 1) (c.args.y + 1) (omega arith)
    (subst (λ (k : ℕ). IsFilled (g.F.Folder.names c.args.folder.now) t.cat t.id t.plan c.loop-band.target c.args.y (c.args.y + 1) k) all before.filled))

pub returns-in_err-write_line-clause-changed : goal.returns-in_err-write_line-clause-changed
returns-in_err-write_line-clause-changed g c =
    let cat = c.args.task.now.translation.now.cat in
    let x = c.in_err-write_line.field-0.0 in
    handed_on (TellsChange cat) x c.from_residual.result c.from_residual.ensures c.in_err-write_line.ensures.changed
