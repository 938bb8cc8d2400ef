use Rattle.std.proofs.Common.{◌∙◌, subst, sym, Result}
use Rattle.error_lines.specs.declared.faults.Fault.{Fault}
use Rattle.gdal_cli.specs.Input.{AnswersInput}
use Rattle.gdal_cli.specs.Location.{point_text}
use Rattle.gdal_cli.proofs.Ended.{err_is}
use Rattle.gdal_cli.proofs.Pieces.{input_ends, last_ends, always_ok, causes_later}
use Rattle.gdal_cli.proofs.input.answer_input.Goals as goal

pub returns-in_err-answer_pieces-clause-told : goal.returns-in_err-answer_pieces-clause-told
returns-in_err-answer_pieces-clause-told g c m named d at i left_is =
    subst (λ (r : Result (Unit {0}) Fault). AnswersInput (point_text m c.args.question.now.cat d c.args.question.now.asked) i (g.I.Input.left c.answer_pieces.new.input) r (g.O.Sink.got c.args.out.now) (g.O.Sink.got c.answer_pieces.new.out))
    (sym (err_is c.from_residual-in_err-answer_pieces.result c.in_err-answer_pieces.field-0.0 c.from_residual-in_err-answer_pieces.ensures))
    (c.in_err-answer_pieces.ensures.told m named d at i left_is)

pub returns-in_err-answer_pieces-clause-stopped : goal.returns-in_err-answer_pieces-clause-stopped
returns-in_err-answer_pieces-clause-stopped g c is =
    c.in_err-answer_pieces.ensures.stopped (sym (err_is c.from_residual-in_err-answer_pieces.result c.in_err-answer_pieces.field-0.0 c.from_residual-in_err-answer_pieces.ensures) ∙ is)

pub returns-in_err-answer_pieces-clause-never : goal.returns-in_err-answer_pieces-clause-never
returns-in_err-answer_pieces-clause-never g c m named name was now is =
    c.in_err-answer_pieces.ensures.never m named name was now (sym (err_is c.from_residual-in_err-answer_pieces.result c.in_err-answer_pieces.field-0.0 c.from_residual-in_err-answer_pieces.ensures) ∙ is)

pub returns-in_err-answer_pieces-clause-cause : goal.returns-in_err-answer_pieces-clause-cause
returns-in_err-answer_pieces-clause-cause g c =
    rw (err_is c.from_residual-in_err-answer_pieces.result c.in_err-answer_pieces.field-0.0 c.from_residual-in_err-answer_pieces.ensures) c.in_err-answer_pieces.ensures.cause

pub returns-in-Some-clause-told : goal.returns-in-Some-clause-told
returns-in-Some-clause-told g c m named d at i left_is =
    let e = c.in_ok-answer_pieces.ensures in
    last_ends (point_text m c.args.question.now.cat d c.args.question.now.asked) c.answer_pieces.new.reader i c.in-Some.last c.answer_line.result (g.I.Input.left c.answer_pieces.new.input) (g.O.Sink.got c.args.out.now) (g.O.Sink.got c.answer_pieces.new.out) (g.O.Sink.got c.answer_line.new.out) (e.told m named d at i left_is) c.in-Some.ensures (c.answer_line.ensures.told m (e.names ∙ named) d at) c.answer_line.ensures.refused

pub returns-in-Some-clause-read : goal.returns-in-Some-clause-read
returns-in-Some-clause-read g c = always_ok c.answer_line.result _ c.in_ok-answer_pieces.ensures.read

pub returns-clause-told : goal.returns-clause-told
returns-clause-told g c m named d at i left_is =
    input_ends (point_text m c.args.question.now.cat d c.args.question.now.asked) c.answer_pieces.new.reader i (g.I.Input.left c.answer_pieces.new.input) (g.O.Sink.got c.args.out.now) (g.O.Sink.got c.answer_pieces.new.out) (c.in_ok-answer_pieces.ensures.told m named d at i left_is) c.in-None.ensures

pub returns-in-Some-clause-never : goal.returns-in-Some-clause-never
returns-in-Some-clause-never g c m named name was now is = c.answer_line.ensures.never m (c.in_ok-answer_pieces.ensures.names ∙ named) name was now is

pub returns-in-Some-clause-cause : goal.returns-in-Some-clause-cause
returns-in-Some-clause-cause g c = causes_later _ _ _ _ _ _ _ c.in_ok-answer_pieces.ensures.cause.folder_later c.in_ok-answer_pieces.ensures.cause.out_later c.answer_line.ensures.cause

pub returns-in-Some-clause-input_cause : goal.returns-in-Some-clause-input_cause
returns-in-Some-clause-input_cause g c = record {
  later = c.in_ok-answer_pieces.ensures.input_cause.later;
  failed = λ is. absurd (c.answer_line.ensures.not_input is);
}
