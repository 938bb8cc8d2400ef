use Rattle.std.proofs.Common.{◌<◌, arith, length, refl}
use Rattle.output_copies.proofs.Handed.{handed_more}
use Rattle.output_copies.proofs.handing.hand_over.Goals as goal

pub loop-at-init : goal.loop-at-init
loop-at-init g c = record {
  handed = record {
    count = refl;
    count_made = refl;
    taken = λ i d early less. absurd (omega arith);
    answers = λ before now may i d early less. absurd (omega arith);
    ready = λ rooms i d early less. absurd (omega arith);
    rest = λ i d behind. refl;
    rest_made = λ i d behind. refl;
  };
}

pub loop-at-preserved : goal.loop-at-preserved
loop-at-preserved g c =
    let t = c.args.task.now.translation.now in
    let so_far = c.loop-at.invariant.handed in
    let within : c.loop-at.at < length c.loop-at.workers = omega (arith, so_far.count, c.loop-at-test.true) in
    let inside : c.loop-at.at < length c.loop-at.made = omega (arith, so_far.count_made, c.requires.count, c.loop-at-test.true) in
    let o = c.take_from.ensures in
    record {
      handed = handed_more g.F.Folder g.S.Scene.told g.S.Scene.cat t.cat t.id t.plan c.args.task.now.packing c.args.task.now.form c.args.task.now.rows c.args.task.now.step c.loop-at.at c.args.first c.args.workers.now c.loop-at.workers c.args.made.now c.loop-at.made c.take_from.new.worker _ c.take_from.new.made _ within inside c.requires.done o.made o.answer o.worker so_far;
    }

pub returns-clause-made : goal.returns-clause-made
returns-clause-made g c = λ i d less.
    let handed = c.loop-at.invariant.handed in
    handed.taken i d (omega (arith, handed.count, handed.count_made, c.requires.count, c.loop-at-test.false, c.loop-at.auto.at-end, less)) less

pub returns-clause-answers : goal.returns-clause-answers
returns-clause-answers g c = λ before now may i d less.
    let handed = c.loop-at.invariant.handed in
    handed.answers before now may i d (omega (arith, handed.count, handed.count_made, c.requires.count, c.loop-at-test.false, c.loop-at.auto.at-end, less)) less

pub returns-clause-workers : goal.returns-clause-workers
returns-clause-workers g c = λ rooms i d less.
    let handed = c.loop-at.invariant.handed in
    handed.ready rooms i d (omega (arith, handed.count, c.loop-at-test.false, c.loop-at.auto.at-end, less)) less
