use Rattle.std.proofs.Common.{rules}
use Rattle.vrt_writing.proofs.Pieces.{on_err}
use Rattle.vrt_writing.proofs.Listed.{keeps_appends_three, four_both, place_made}
use Rattle.vrt_writing.proofs.spelling.push_place.Goals as goal

pub returns-in_err-push_rectangle-2-clause-err : goal.returns-in_err-push_rectangle-2-clause-err
returns-in_err-push_rectangle-2-clause-err c = on_err c.from_residual-in_err-push_rectangle-2.result (keeps_appends_three _ _ _ _ _ _ _ _ _ c.in_ok-push_file.ensures.ok c.in_ok-push_number_line.ensures.ok c.in_ok-push_rectangle.ensures.ok c.in_err-push_rectangle-2.ensures.err)

pub returns-clause-ok : goal.returns-clause-ok
returns-clause-ok c = place_made _ _ c.args.source.now c.source.inside.relative c.as_str.result.now _ c.source.inside.src c.source.inside.dst (four_both _ _ _ _ _ _ _ _ _ _ c.in_ok-push_file.ensures.ok c.in_ok-push_number_line.ensures.ok c.in_ok-push_rectangle.ensures.ok c.in_ok-push_rectangle-2.ensures.ok) (search rules) (search rules) (search rules) (search rules) (search rules)
