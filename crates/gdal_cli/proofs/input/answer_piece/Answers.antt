use Rattle.std.proofs.Common.{◌≡◌, ◌∙◌, ◌-◌, subst, sym, arith, ℕ, List, take, drop, length, length-drop, Result}
use Rattle.std.proofs.lemmas.List.{drop_all, length-take-le}
use Rattle.error_lines.specs.declared.faults.Fault.{Fault}
use Rattle.gdal_cli.specs.Input.{Answered, AnswersPiece}
use Rattle.gdal_cli.specs.Location.{point_text}
use Rattle.gdal_cli.proofs.Ended.{err_is}
use Rattle.gdal_cli.proofs.Lines.{piece_then, rest_stops}
use Rattle.gdal_cli.proofs.input.answer_piece.Goals as goal

pub loop-at-preserved : goal.loop-at-preserved
loop-at-preserved g c =
    let so_far = c.loop-at.invariant in
    let e = c.in_ok-used.ensures in
    let used = c.in_ok-used.used in
    let count : length (take (length c.args.piece.now - c.loop-at.at) (drop c.loop-at.at c.args.piece.now)) ≡ length c.args.piece.now - c.loop-at.at = length-take-le (length c.args.piece.now - c.loop-at.at) (drop c.loop-at.at c.args.piece.now) (omega (arith, length-drop c.loop-at.at c.args.piece.now)) in
    record {
      within = omega (arith, e.used, count, c.loop-at-test.true);
      told = λ m named d at.
          let tell = point_text m c.args.question.now.cat d c.args.question.now.asked in
          piece_then tell c.args.reader.now c.loop-at.reader c.answer_next.new.reader c.args.piece.now c.loop-at.at used (g.O.Sink.got c.args.out.now) (g.O.Sink.got c.loop-at.out) (g.O.Sink.got c.answer_next.new.out) (so_far.told m named d at) (e.told m (so_far.names ∙ named) d at);
      reading = e.reading.0;
      none = λ _. e.none;
      most = omega (arith, e.reading.1, so_far.most);
      less = λ _. omega (arith, e.reading.1, so_far.most);
      room = e.room ∙ so_far.room;
      ready = e.ready;
      names = e.names ∙ so_far.names;
      writes = e.writes ∙ so_far.writes;
      folder_later = omega (arith, e.cause.folder_later, so_far.folder_later);
      out_later = omega (arith, e.cause.out_later, so_far.out_later);
    }

pub returns-in_err-used-clause-told : goal.returns-in_err-used-clause-told
returns-in_err-used-clause-told g c m named d at =
    let f = c.in_err-used.field-0.0 in
    let so_far = c.loop-at.invariant in
    let tell = point_text m c.args.question.now.cat d c.args.question.now.asked in
    subst (λ (r : Result (Unit {0}) Fault). AnswersPiece tell c.args.reader.now c.args.piece.now c.answer_next.new.reader r (g.O.Sink.got c.args.out.now) (g.O.Sink.got c.answer_next.new.out))
    (sym (err_is c.from_residual.result f c.from_residual.ensures))
    (rest_stops tell c.args.reader.now c.loop-at.reader c.args.piece.now c.loop-at.at f (g.O.Sink.got c.args.out.now) (g.O.Sink.got c.loop-at.out) (g.O.Sink.got c.answer_next.new.out) (so_far.told m named d at) (c.in_err-used.ensures.told m (so_far.names ∙ named) d at))

pub returns-clause-told : goal.returns-clause-told
returns-clause-told g c m named d at =
    subst (λ (s : List ℕ). Answered (point_text m c.args.question.now.cat d c.args.question.now.asked) c.args.reader.now c.args.piece.now c.loop-at.reader s (g.O.Sink.got c.args.out.now) (g.O.Sink.got c.loop-at.out))
    (drop_all c.loop-at.at c.args.piece.now c.loop-at-test.false)
    (c.loop-at.invariant.told m named d at)
