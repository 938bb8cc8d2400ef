use Rattle.std.proofs.Common.{◌≡◌, refl, arith, sym, subst, length, ℕ, Option}
use Rattle.outside.specs.Outside.{Files}
use Rattle.output_copies.specs.Copying.{TellsChange}
use Rattle.output_copies.specs.Filled.{IsFilled}
use Rattle.output_copies.proofs.Changes.{handed_on}
use Rattle.output_copies.proofs.Copied.{filled_next, filled_to}
use Rattle.output_copies.proofs.copying.copy_strip.Goals as goal

pub loop-band-init : goal.loop-band-init
loop-band-init g c = record {
  ready = c.requires.ready;
  room = c.requires.room;
  filled = filled_to (g.F.Folder.names c.args.folder.now) c.args.translation.now.cat c.args.translation.now.id c.args.translation.now.plan c.rules.ensures.kept c.args.target.now c.args.strip.first c.args.strip.first c.args.strip.end c.requires.filled;
  name = refl;
  names = refl;
  later = omega arith;
}

pub returns-clause-filled : goal.returns-clause-filled
returns-clause-filled g c =
    let p = c.args.translation.now.plan in
    let before = c.loop-band.invariant in
    let all : c.loop-band.band ≡ length p.bands = omega (arith, c.count-bands.ensures.count, c.loop-band-test.false, c.loop-band.auto.band-end) in
    subst (λ (o : Option Files). IsFilled o c.args.translation.now.cat c.args.translation.now.id p c.loop-band.target c.args.strip.end c.args.strip.end 0) (sym before.names)
    (filled_next (g.F.Folder.names c.args.folder.now) c.args.translation.now.cat c.args.translation.now.id p c.rules.ensures.kept c.loop-band.target c.args.strip.first c.args.strip.end c.args.strip.end c.requires.order
    (subst (λ (k : ℕ). IsFilled (g.F.Folder.names c.args.folder.now) c.args.translation.now.cat c.args.translation.now.id p c.loop-band.target c.args.strip.first c.args.strip.end k) all before.filled))

pub returns-in_err-copy_band-clause-changed : goal.returns-in_err-copy_band-clause-changed
returns-in_err-copy_band-clause-changed g c =
    let cat = c.args.translation.now.cat in
    let x = c.in_err-copy_band.field-0.0 in
    handed_on (TellsChange cat) x c.from_residual.result c.from_residual.ensures c.in_err-copy_band.ensures.changed
