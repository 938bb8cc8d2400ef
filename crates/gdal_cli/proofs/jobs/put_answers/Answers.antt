use Rattle.std.proofs.Common.{rules, arith, ap, sym, subst, ℤ, Option}
use Rattle.std.specs.Prelude.{is_some}
use Rattle.std.proofs.lemmas.Grind.{common_steps}
use Rattle.input_points.specs.Entries.{entries}
use Rattle.error_lines.specs.declared.faults.Fault.TheVariants.{Memory}
use Rattle.gdal_cli.specs.Run.{StopsBehind}
use Rattle.gdal_cli.specs.Location.{answers, point_text}
use Rattle.gdal_cli.specs.Jobs.{Ends}
use Rattle.gdal_cli.proofs.Causes.{readings_of_lines}
use Rattle.gdal_cli.proofs.Changed.{puts_unchanged}
use Rattle.gdal_cli.proofs.Ended.{err_is, ends_outside, equal_put, lines_put, unput}
use Rattle.gdal_cli.proofs.Pieces.{always_ok, then_ok}
use Rattle.gdal_cli.proofs.jobs.put_answers.Goals as goal

pub returns-in_err-points-clause-told : goal.returns-in_err-points-clause-told
returns-in_err-points-clause-told g c = λ m is d at i left.
    ends_outside (answers (point_text m c.args.question.now.cat d c.args.question.now.asked) c.args.point (entries i)) c.from_residual.result Memory (g.O.Sink.got c.args.out.now)
    (err_is c.from_residual.result Memory c.from_residual.ensures) tt

pub returns-in-Some-clause-told : goal.returns-in-Some-clause-told
returns-in-Some-clause-told g c = λ m is d at i left.
    subst (λ (p : Option (ℤ × ℤ)). Ends (answers (point_text m c.args.question.now.cat d c.args.question.now.asked) p (entries i)) c.put_point-put.result (g.O.Sink.got c.args.out.now) (g.O.Sink.got c.put_point-put.new.out))
    (sym c.in-Some.is)
    (equal_put (point_text m c.args.question.now.cat d c.args.question.now.asked c.in-Some.x c.in-Some.y) _ c.put_point-put.result _ _ (c.put_point-put.ensures.told m is d at) (first_of (search rules, grind (arith, common_steps), cc)))

pub returns-in-Some-clause-never : goal.returns-in-Some-clause-never
returns-in-Some-clause-never g c = λ m is.
    let bands = c.requires.bands in
    puts_unchanged _ c.put_point-put.result _ _ (c.put_point-put.ensures.told m is bands.dataset bands.at)

pub returns-clause-told : goal.returns-clause-told
returns-clause-told g c = λ m is d at i left.
    subst (λ (p : Option (ℤ × ℤ)). Ends (answers (point_text m c.args.question.now.cat d c.args.question.now.asked) p (entries i)) c.answer_input-answered.result (g.O.Sink.got c.args.out.now) (g.O.Sink.got c.answer_input-answered.new.out))
    (sym c.in-None.is)
    (lines_put (point_text m c.args.question.now.cat d c.args.question.now.asked) i (g.I.Input.left c.answer_input-answered.new.input) c.answer_input-answered.result _ _ (c.answer_input-answered.ensures.told m is d at i (left (ap (λ (p : Option (ℤ × ℤ)). is_some p) c.in-None.is))))

pub returns-clause-stopped : goal.returns-clause-stopped
returns-clause-stopped g c = λ so m is d at i left.
    subst (λ (p : Option (ℤ × ℤ)). StopsBehind (answers (point_text m c.args.question.now.cat d c.args.question.now.asked) p) i (g.I.Input.left c.answer_input-answered.new.input) (g.O.Sink.got c.args.out.now) (g.O.Sink.got c.answer_input-answered.new.out))
    (sym c.in-None.is)
    (c.answer_input-answered.ensures.stopped so m is d at i left)

pub returns-in-Some-clause-lines : goal.returns-in-Some-clause-lines
returns-in-Some-clause-lines g c = readings_of_lines c.put_point-put.result c.put_point-put.ensures.late

pub put_point-put-requires-clause-ready : goal.put_point-put-requires-clause-ready
put_point-put-requires-clause-ready g c κs within = record {
  ready = c.in_ok-points.ensures.fresh c.args.folder.now c.args.question.now.cat c.requires.walked;
  told_is = c.requires.told;
  scene_is = c.requires.scene;
}

pub answer_input-answered-requires-clause-ready : goal.answer_input-answered-requires-clause-ready
answer_input-answered-requires-clause-ready g c κs within = record {
  ready = c.in_ok-points.ensures.fresh c.args.folder.now c.args.question.now.cat c.requires.walked;
  told_is = c.requires.told;
  scene_is = c.requires.scene;
}

pub returns-in-Some-clause-read : goal.returns-in-Some-clause-read
returns-in-Some-clause-read g c = always_ok c.put_point-put.result _ (λ none i left. (let some = ap (λ (p : Option (ℤ × ℤ)). is_some p) c.in-Some.is in absurd (cc)))

pub returns-clause-read : goal.returns-clause-read
returns-clause-read g c = then_ok c.answer_input-answered.result _ _ c.answer_input-answered.ensures.read (λ read none i left. read i left)

pub returns-in_err-points-clause-unput : goal.returns-in_err-points-clause-unput
returns-in_err-points-clause-unput g c = λ some. unput c.from_residual.result c.args.out.now

pub returns-in-Some-clause-unput : goal.returns-in-Some-clause-unput
returns-in-Some-clause-unput g c = λ some. c.put_point-put.ensures.unput
