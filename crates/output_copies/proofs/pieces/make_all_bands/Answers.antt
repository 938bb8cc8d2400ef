use Rattle.std.proofs.Common.{◌≡◌, refl, arith, subst, length, ℕ}
use Rattle.output_copies.specs.Copying.{TellsChange}
use Rattle.output_copies.specs.Packed.{AreMade}
use Rattle.output_copies.proofs.Changes.{handed_on}
use Rattle.output_copies.proofs.Packs.{made_next, made_none, made_to}
use Rattle.output_copies.proofs.pieces.make_all_bands.Goals as goal

pub loop-band-init : goal.loop-band-init
loop-band-init g c =
    let t = c.args.task.now.translation.now in
    let w = c.args.task.now.packing in
    let top = c.args.portion.top in
    record {
      ready = c.requires.ready;
      room = c.requires.room;
      desk = c.requires.desk;
      made = made_to g.S.Scene.told t.cat t.id t.plan w top c.args.desk.now.packed.items top top c.args.portion.end (made_none g.S.Scene.told t.cat t.id t.plan w top c.args.desk.now.packed.items);
      names = refl;
      later = omega arith;
    }

pub make_band-requires-clause-band : goal.make_band-requires-clause-band
make_band-requires-clause-band g c κs within = omega (arith, c.loop-band-test.true, c.count-bands.ensures.count)

pub returns-clause-made : goal.returns-clause-made
returns-clause-made g c =
    let t = c.args.task.now.translation.now in
    let w = c.args.task.now.packing in
    let all : c.loop-band.band ≡ length c.args.task.now.translation.now.plan.bands = omega (arith, c.count-bands.ensures.count, c.loop-band-test.false, c.loop-band.auto.band-end) in
    made_next g.S.Scene.told t.cat t.id t.plan w c.args.portion.top c.loop-band.desk.packed.items c.args.portion.top c.args.portion.end
    (subst (λ (k : ℕ). AreMade g.S.Scene.told t.cat t.id t.plan w c.args.portion.top c.loop-band.desk.packed.items c.args.portion.top c.args.portion.end k) all c.loop-band.invariant.made)

pub returns-in_err-make_band-clause-changed : goal.returns-in_err-make_band-clause-changed
returns-in_err-make_band-clause-changed g c =
    let cat = c.args.task.now.translation.now.cat in
    let x = c.in_err-make_band.field-0.0 in
    handed_on (TellsChange cat) x c.from_residual.result c.from_residual.ensures c.in_err-make_band.ensures.changed
