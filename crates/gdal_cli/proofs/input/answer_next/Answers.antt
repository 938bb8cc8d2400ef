use Rattle.std.proofs.Common.{subst, sym, ℕ, drop, Result}
use Rattle.error_lines.specs.declared.faults.Fault.{Fault}
use Rattle.gdal_cli.specs.Input.{AnswersNext}
use Rattle.gdal_cli.specs.Location.{point_text}
use Rattle.gdal_cli.proofs.Ended.{err_is}
use Rattle.gdal_cli.proofs.Lines.{next_stops, next_line, next_none}
use Rattle.gdal_cli.proofs.input.answer_next.Goals as goal

pub returns-in_err-answer_line-in-Some-clause-told : goal.returns-in_err-answer_line-in-Some-clause-told
returns-in_err-answer_line-in-Some-clause-told g c m told d at =
    let f = c.in_err-answer_line-in-Some.field-0.0 in
    let e = c.in-Some.found in
    let is = c.in-Some.is in
    let tell = point_text m c.args.question.now.cat d c.args.question.now.asked in
    subst (λ (r : Result ℕ Fault). AnswersNext tell c.args.reader.now c.args.piece.now c.next-entry.new.self r (g.O.Sink.got c.args.out.now) (g.O.Sink.got c.answer_line.new.out))
    (sym (err_is c.from_residual.result f c.from_residual.ensures))
    (next_stops tell c.args.reader.now c.next-entry.new.self c.args.piece.now (drop c.next-entry.result.1 c.args.piece.now) c.next-entry.result.0 e f (g.O.Sink.got c.args.out.now) (g.O.Sink.got c.answer_line.new.out) is c.next-entry.ensures.all c.next-entry.ensures.last (c.in_err-answer_line-in-Some.ensures.told m told d at) c.in_err-answer_line-in-Some.ensures.refused)

pub returns-in_ok-answer_line-in-Some-clause-told : goal.returns-in_ok-answer_line-in-Some-clause-told
returns-in_ok-answer_line-in-Some-clause-told g c m told d at =
    let e = c.in-Some.found in
    let is = c.in-Some.is in
    next_line (point_text m c.args.question.now.cat d c.args.question.now.asked) c.args.reader.now c.next-entry.new.self c.args.piece.now (drop c.next-entry.result.1 c.args.piece.now) c.next-entry.result.0 e (g.O.Sink.got c.args.out.now) (g.O.Sink.got c.answer_line.new.out) is c.next-entry.ensures.all c.next-entry.ensures.ended c.in_ok-answer_line-in-Some.ensures.refused (c.in_ok-answer_line-in-Some.ensures.told m told d at)

pub returns-in-None-clause-told : goal.returns-in-None-clause-told
returns-in-None-clause-told g c m told d at =
    next_none (point_text m c.args.question.now.cat d c.args.question.now.asked) c.args.reader.now c.next-entry.new.self c.args.piece.now (drop c.next-entry.result.1 c.args.piece.now) c.next-entry.result.0 (g.O.Sink.got c.args.out.now) c.in-None.is c.next-entry.ensures.all c.next-entry.ensures.ended
