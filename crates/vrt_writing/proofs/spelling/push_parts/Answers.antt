use Rattle.std.proofs.Common.{rules}
use Rattle.vrt_writing.proofs.Pieces.{on_err, keeps_appends}
use Rattle.vrt_writing.proofs.Listed.{keeps_appends_two, three_both, parts_made}
use Rattle.vrt_writing.proofs.spelling.push_parts.Goals as goal

pub returns-in_err-push_geo-clause-err : goal.returns-in_err-push_geo-clause-err
returns-in_err-push_geo-clause-err c = on_err c.from_residual-in_err-push_geo.result (keeps_appends _ _ _ _ _ c.in_ok-push_srs.ensures.ok c.in_err-push_geo.ensures.err)

pub returns-in_err-push_bands-clause-err : goal.returns-in_err-push_bands-clause-err
returns-in_err-push_bands-clause-err c = on_err c.from_residual-in_err-push_bands.result (keeps_appends_two _ _ _ _ _ _ _ c.in_ok-push_srs.ensures.ok c.in_ok-push_geo.ensures.ok c.in_err-push_bands.ensures.err)

pub returns-clause-ok : goal.returns-clause-ok
returns-clause-ok c = parts_made _ _ c.args.document.now _ _ _ (three_both _ _ _ _ _ _ _ _ c.in_ok-push_srs.ensures.ok c.in_ok-push_geo.ensures.ok c.in_ok-push_bands.ensures.ok) (search rules) (search rules) (search rules)
