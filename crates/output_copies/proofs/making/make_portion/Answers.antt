use Rattle.std.proofs.Common.{◌≡◌, ◌≤◌, ◌+◌, ◌-◌, ◌*◌, refl, arith, length, subst, ℕ}
use Rattle.std.proofs.Math.Nat.{mul-le-mul}
use Rattle.output_copies.specs.Copying.{TellsChange}
use Rattle.output_copies.specs.Packed.{room_in, AreMade}
use Rattle.output_copies.proofs.Changes.{handed_on}
use Rattle.output_copies.proofs.Packs.{made_none}
use Rattle.output_copies.proofs.making.make_portion.Goals as goal

pub loop-line-init : goal.loop-line-init
loop-line-init g c =
    let t = c.args.task.now.translation.now in
    record {
      top = omega arith;
      below = c.requires.order;
      ready = c.requires.ready;
      room = c.requires.room;
      desk = c.requires.desk;
      made = made_none g.S.Scene.told t.cat t.id t.plan c.args.task.now.packing c.args.portion.top c.args.desk.now.packed.items;
      names = refl;
      later = omega arith;
    }

pub make_bands-requires-clause-order : goal.make_bands-requires-clause-order
make_bands-requires-clause-order g c κs within = let some = c.requires.task.some_step in omega (arith, some, c.min.ensures, c.loop-line-test.true)

pub loop-line-smaller : goal.loop-line-smaller
loop-line-smaller g c = let some = c.requires.task.some_step in omega (arith, some, c.min.ensures, c.loop-line-test.true)

pub make_bands-requires-clause-long : goal.make_bands-requires-clause-long
make_bands-requires-clause-long g c κs within =
    let p = c.args.task.now.translation.now.plan in
    let few : c.loop-line.line + c.min.result - c.loop-line.line ≤ c.args.task.now.step = omega (arith, c.min.ensures) in
    let less : c.args.task.now.translation.now.plan.size.w * (c.loop-line.line + c.min.result - c.loop-line.line) ≤ c.args.task.now.translation.now.plan.size.w * c.args.task.now.step = mul-le-mul (omega arith) few in
    let wide : c.args.task.now.translation.now.plan.size.w * c.args.task.now.step ≤ length c.loop-line.desk.room.items = subst (λ f. room_in f p c.args.task.now.rows c.args.task.now.step ≤ length c.loop-line.desk.room.items) c.requires.lines c.loop-line.invariant.desk.wide in
    omega (arith, less, wide)

pub returns-clause-made : goal.returns-clause-made
returns-clause-made g c =
    let t = c.args.task.now.translation.now in
    let before = c.loop-line.invariant in
    let all : c.loop-line.line ≡ c.args.portion.end = omega (arith, before.below, c.loop-line-test.false) in
    subst (λ (n : ℕ). AreMade g.S.Scene.told t.cat t.id t.plan c.args.task.now.packing c.args.portion.top c.loop-line.desk.packed.items n n 0) all before.made

pub returns-in_err-make_bands-clause-changed : goal.returns-in_err-make_bands-clause-changed
returns-in_err-make_bands-clause-changed g c =
    let cat = c.args.task.now.translation.now.cat in
    let x = c.in_err-make_bands.field-0.0 in
    handed_on (TellsChange cat) x c.from_residual.result c.from_residual.ensures c.in_err-make_bands.ensures.changed
