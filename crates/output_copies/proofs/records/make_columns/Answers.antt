use Rattle.std.proofs.Common.{◌≡◌, ◌+◌, ◌-◌, ap, refl, arith, subst, true, ℕ}
use Rattle.translate_plan.specs.Plan.{Planned}
use Rattle.output_copies.specs.Copying.{TellsChange}
use Rattle.output_copies.specs.Packed.{AreColumnFronts}
use Rattle.output_copies.proofs.Changes.{handed_on}
use Rattle.output_copies.proofs.Fronts.{front_none}
use Rattle.output_copies.proofs.records.make_columns.Goals as goal

pub loop-line-init : goal.loop-line-init
loop-line-init g c =
    let t = c.args.task.now.translation.now in
    record {
      low = omega arith;
      ready = c.requires.ready;
      room = c.requires.room;
      desk = c.requires.desk;
      fronts = λ i d less. front_none g.S.Scene.told t.cat t.id t.plan true 0 (c.args.portion.top + i) _;
      names = refl;
      later = omega arith;
    }

pub make_rows-requires-clause-piece : goal.make_rows-requires-clause-piece
make_rows-requires-clause-piece g c κs within =
    let high : c.plan.inside.size.h ≡ c.args.task.now.translation.now.plan.size.h = ap (λ (p : Planned). p.size.h) c.plan.view_is in
    let step = c.requires.task.some_step in
    let band = c.rules.ensures.kept.some_band in
    record {
      band = band;
      lines = omega (arith, step, c.min.ensures, c.loop-line-test.true);
      height = omega (arith, high, c.min.ensures, c.loop-line-test.true);
      columns = c.requires.order;
      width = c.requires.end;
    }

pub make_rows-requires-clause-run : goal.make_rows-requires-clause-run
make_rows-requires-clause-run g c κs within = omega (arith, c.requires.run, c.loop-line.auto.run)

pub make_rows-requires-clause-low : goal.make_rows-requires-clause-low
make_rows-requires-clause-low g c κs within = omega (arith, c.min.ensures)

pub loop-line-smaller : goal.loop-line-smaller
loop-line-smaller g c = let some = c.requires.task.some_step in omega (arith, some, c.min.ensures, c.loop-line-test.true)

pub returns-clause-fronts : goal.returns-clause-fronts
returns-clause-fronts g c =
    let t = c.args.task.now.translation.now in
    let before = c.loop-line.invariant in
    let high : c.plan.inside.size.h ≡ c.args.task.now.translation.now.plan.size.h = ap (λ (p : Planned). p.size.h) c.plan.view_is in
    let all : c.loop-line.line ≡ c.args.task.now.translation.now.plan.size.h = omega (arith, before.low, c.loop-line-test.false, high) in
    subst (λ (n : ℕ). AreColumnFronts g.S.Scene.told t.cat t.id t.plan c.args.task.now.packing c.args.portion.top (c.args.portion.end - c.args.portion.top) n c.loop-line.desk.records.items) all before.fronts

pub returns-in_err-make_rows-clause-changed : goal.returns-in_err-make_rows-clause-changed
returns-in_err-make_rows-clause-changed g c =
    let cat = c.args.task.now.translation.now.cat in
    let x = c.in_err-make_rows.field-0.0 in
    handed_on (TellsChange cat) x c.from_residual.result c.from_residual.ensures c.in_err-make_rows.ensures.changed
