use Rattle.std.proofs.Common.{◌≡◌, refl, arith, subst, length, ℕ}
use Rattle.output_copies.specs.Copying.{TellsChange}
use Rattle.output_copies.specs.Packed.{AreMade}
use Rattle.output_copies.proofs.Changes.{handed_on}
use Rattle.output_copies.proofs.Packs.{made_next, made_to}
use Rattle.output_copies.proofs.making.make_bands.Goals as goal

pub loop-band-init : goal.loop-band-init
loop-band-init g c =
    let t = c.args.task.now.translation.now in
    record {
      ready = c.requires.ready;
      room = c.requires.room;
      desk = c.requires.desk;
      made = made_to g.S.Scene.told t.cat t.id t.plan c.args.task.now.packing c.args.top c.args.desk.now.packed.items c.args.portion.top c.args.portion.top c.args.portion.end c.requires.made;
      size = refl;
      names = refl;
      later = omega arith;
    }

pub make_lines-requires-clause-long : goal.make_lines-requires-clause-long
make_lines-requires-clause-long g c κs within = omega (arith, c.requires.long, c.loop-band.invariant.size)

pub returns-clause-made : goal.returns-clause-made
returns-clause-made g c =
    let t = c.args.task.now.translation.now in
    let before = c.loop-band.invariant in
    let all : c.loop-band.band ≡ length t.plan.bands = omega (arith, c.count-bands.ensures.count, c.loop-band-test.false, c.loop-band.auto.band-end) in
    made_next g.S.Scene.told t.cat t.id t.plan c.args.task.now.packing c.args.top c.loop-band.desk.packed.items c.args.portion.top c.args.portion.end
    (subst (λ (k : ℕ). AreMade g.S.Scene.told t.cat t.id t.plan c.args.task.now.packing c.args.top c.loop-band.desk.packed.items c.args.portion.top c.args.portion.end k) all before.made)

pub returns-in_err-make_lines-clause-changed : goal.returns-in_err-make_lines-clause-changed
returns-in_err-make_lines-clause-changed g c =
    let cat = c.args.task.now.translation.now.cat in
    let x = c.in_err-make_lines.field-0.0 in
    handed_on (TellsChange cat) x c.from_residual.result c.from_residual.ensures c.in_err-make_lines.ensures.changed
