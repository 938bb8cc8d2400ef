use Rattle.std.proofs.Common.{rules}
use Rattle.vrt_writing.proofs.Pieces.{on_err}
use Rattle.vrt_writing.proofs.Listed.{keeps_tag, keeps_tag_then, keeps_tag_two, band_made}
use Rattle.vrt_writing.proofs.spelling.push_band.Goals as goal

pub returns-in_err-push_nodata-clause-err : goal.returns-in_err-push_nodata-clause-err
returns-in_err-push_nodata-clause-err c = on_err c.from_residual-in_err-push_nodata.result (keeps_tag _ _ _ _ _ _ c.in_ok-push_band_tag.ensures.ok c.in_err-push_nodata.ensures.err)

pub returns-in_err-push_sources-clause-err : goal.returns-in_err-push_sources-clause-err
returns-in_err-push_sources-clause-err c = on_err c.from_residual-in_err-push_sources.result (keeps_tag_then _ _ _ _ _ _ _ _ _ c.in_ok-push_band_tag.ensures.ok c.in_ok-push_nodata.ensures.ok c.in_err-push_sources.ensures.err)

pub returns-in_err-push_end_line-clause-err : goal.returns-in_err-push_end_line-clause-err
returns-in_err-push_end_line-clause-err c = on_err c.from_residual-in_err-push_end_line.result (keeps_tag_two _ _ _ _ _ _ _ _ _ _ _ c.in_ok-push_band_tag.ensures.ok c.in_ok-push_nodata.ensures.ok c.in_ok-push_sources.ensures.ok c.in_err-push_end_line.ensures.err)

pub returns-clause-ok : goal.returns-clause-ok
returns-clause-ok c = band_made _ _ _ _ _ _ _ _ _ c.args.band.now c.in_ok-push_band_tag.ensures.ok c.in_ok-push_nodata.ensures.ok c.in_ok-push_sources.ensures.ok c.in_ok-push_end_line.ensures.ok (search rules) (search rules) (search rules)
