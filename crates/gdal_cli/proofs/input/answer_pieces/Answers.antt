use Rattle.std.proofs.Common.{◌∙◌, subst, sym, refl, arith, drop, Result}
use Rattle.error_lines.specs.declared.faults.Fault.{Fault}
use Rattle.error_lines.specs.declared.faults.Fault.TheVariants.{InputFault}
use Rattle.gdal_cli.specs.Input.{AnswersPieces}
use Rattle.gdal_cli.specs.Location.{point_text}
use Rattle.gdal_cli.proofs.Ended.{err_is}
use Rattle.gdal_cli.proofs.Pieces.{start_reads, start_none, nothing_taken, taken_more, piece_stops, input_stops, input_failed, pieces_end, taken_some, left_none, causes_later, stopped_causes}
use Rattle.gdal_cli.proofs.input.answer_pieces.Goals as goal

pub pieces-init : goal.pieces-init
pieces-init g c = record {
  told = λ m named d at i left_is. nothing_taken (point_text m c.args.question.now.cat d c.args.question.now.asked) c.args.reader.now i (g.I.Input.left c.args.input.now) (g.O.Sink.got c.args.out.now) c.requires.start left_is;
  rest = λ i is. (i, is);
  reading = start_reads c.args.reader.now c.requires.start;
  none = start_none c.args.reader.now c.requires.start;
  some = c.requires.some;
  room = refl;
  ready = c.requires.ready;
  names = refl;
  writes = refl;
  folder_later = omega arith;
  input_later = omega arith;
  out_later = omega arith;
}

pub returns-in-Err-clause-told : goal.returns-in-Err-clause-told
returns-in-Err-clause-told g c m named d at i left_is =
    input_failed (point_text m c.args.question.now.cat d c.args.question.now.asked) c.pieces.reader i InputFault (g.I.Input.left c.pieces.input) (g.O.Sink.got c.args.out.now) (g.O.Sink.got c.pieces.out) (c.pieces.invariant.told m named d at i left_is) tt

pub returns-in-Err-clause-stopped : goal.returns-in-Err-clause-stopped
returns-in-Err-clause-stopped g c same m named d at i left_is =
    input_stops (point_text m c.args.question.now.cat d c.args.question.now.asked) c.pieces.reader i (g.I.Input.left c.pieces.input) (g.I.Input.left c.take.new.self) (g.O.Sink.got c.args.out.now) (g.O.Sink.got c.pieces.out) (c.pieces.invariant.told m named d at i left_is) c.in-Err.ensures.told c.pieces.invariant.none

pub returns-in-Err-clause-cause : goal.returns-in-Err-clause-cause
returns-in-Err-clause-cause g c = stopped_causes _ _ _ _ c.pieces.invariant.folder_later c.pieces.invariant.out_later

pub returns-then-count-eq0-clause-told : goal.returns-then-count-eq0-clause-told
returns-then-count-eq0-clause-told g c m named d at i left_is =
    pieces_end (point_text m c.args.question.now.cat d c.args.question.now.asked) c.pieces.reader i c.take.new.out c.in-Ok.count (g.I.Input.left c.pieces.input) (g.I.Input.left c.take.new.self) (g.O.Sink.got c.args.out.now) (g.O.Sink.got c.pieces.out) (c.pieces.invariant.told m named d at i left_is) c.in-Ok.ensures.told c.if-count-eq0.true

pub returns-then-count-eq0-clause-read : goal.returns-then-count-eq0-clause-read
returns-then-count-eq0-clause-read g c i left_is =
    let r = c.pieces.invariant.rest i left_is in
    let got = c.in-Ok.ensures.told r.0 r.1 in
    left_none c.in-Ok.count r.0 (g.I.Input.left c.take.new.self) c.if-count-eq0.true (got.at_end c.if-count-eq0.true) got.rest

pub pieces-smaller : goal.pieces-smaller
pieces-smaller g c = c.in_ok-answer_piece.ensures.forward (taken_some c.in-Ok.count c.take.new.out c.in-Ok.ensures.bound c.if-count-eq0.false)

pub pieces-preserved : goal.pieces-preserved
pieces-preserved g c =
    let so_far = c.pieces.invariant in
    let e = c.in_ok-answer_piece.ensures in
    record {
      told = λ m named d at i left_is.
          taken_more (point_text m c.args.question.now.cat d c.args.question.now.asked) c.pieces.reader c.answer_piece.new.reader i c.take.new.out _ c.in-Ok.count (g.I.Input.left c.pieces.input) (g.I.Input.left c.take.new.self) (g.O.Sink.got c.args.out.now) (g.O.Sink.got c.pieces.out) (g.O.Sink.got c.answer_piece.new.out) (so_far.told m named d at i left_is) c.in-Ok.ensures.told refl (e.told m (so_far.names ∙ named) d at);
      rest = λ i left_is. let r = so_far.rest i left_is in (drop c.in-Ok.count r.0, (c.in-Ok.ensures.told r.0 r.1).rest);
      reading = e.reading;
      none = e.none (taken_some c.in-Ok.count c.take.new.out c.in-Ok.ensures.bound c.if-count-eq0.false);
      some = omega (arith, c.in-Ok.ensures.bound, c.if-count-eq0.false);
      room = e.room ∙ so_far.room;
      ready = e.ready;
      names = e.names ∙ so_far.names;
      writes = e.writes ∙ so_far.writes;
      folder_later = omega (arith, e.cause.folder_later, so_far.folder_later);
      input_later = omega (arith, c.in-Ok.ensures.cause.later, so_far.input_later);
      out_later = omega (arith, e.cause.out_later, so_far.out_later);
    }

pub returns-in_err-answer_piece-clause-told : goal.returns-in_err-answer_piece-clause-told
returns-in_err-answer_piece-clause-told g c m named d at i left_is =
    let f = c.in_err-answer_piece.field-0.0 in
    let so_far = c.pieces.invariant in
    let tell = point_text m c.args.question.now.cat d c.args.question.now.asked in
    subst (λ (r : Result (Unit {0}) Fault). AnswersPieces tell i (g.I.Input.left c.take.new.self) c.answer_piece.new.reader r (g.O.Sink.got c.args.out.now) (g.O.Sink.got c.answer_piece.new.out))
    (sym (err_is c.from_residual.result f c.from_residual.ensures))
    (piece_stops tell c.pieces.reader i c.take.new.out _ c.in-Ok.count f (g.I.Input.left c.pieces.input) (g.I.Input.left c.take.new.self) (g.O.Sink.got c.args.out.now) (g.O.Sink.got c.pieces.out) (g.O.Sink.got c.answer_piece.new.out) (so_far.told m named d at i left_is) c.in-Ok.ensures.told refl (c.in_err-answer_piece.ensures.told m (so_far.names ∙ named) d at))

pub returns-in_err-answer_piece-clause-never : goal.returns-in_err-answer_piece-clause-never
returns-in_err-answer_piece-clause-never g c m named name was now is =
    c.in_err-answer_piece.ensures.never m (c.pieces.invariant.names ∙ named) name was now (sym (err_is c.from_residual.result c.in_err-answer_piece.field-0.0 c.from_residual.ensures) ∙ is)

pub returns-in_err-answer_piece-clause-cause : goal.returns-in_err-answer_piece-clause-cause
returns-in_err-answer_piece-clause-cause g c =
    rw (err_is c.from_residual.result c.in_err-answer_piece.field-0.0 c.from_residual.ensures)
    (causes_later _ _ _ _ _ _ _ c.pieces.invariant.folder_later c.pieces.invariant.out_later c.in_err-answer_piece.ensures.cause)
