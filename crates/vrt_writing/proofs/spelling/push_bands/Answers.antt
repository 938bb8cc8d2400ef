use Rattle.std.proofs.Common.{arith, rules}
use Rattle.vrt_writing.proofs.Pieces.{keeps_more, on_err}
use Rattle.vrt_writing.proofs.Listed.{next_band, bands_made}
use Rattle.vrt_writing.proofs.spelling.push_bands.Goals as goal

pub loop-band-preserved : goal.loop-band-preserved
loop-band-preserved c = record { number = omega (arith, c.loop-band.invariant.number); done = next_band _ _ _ c.args.bands.now c.loop-band.band-index _ _ _ c.loop-band-test.true c.loop-band.invariant.number c.band-item.is c.loop-band.invariant.done c.in_ok-push_band.ensures.ok }

pub returns-in_err-push_band-clause-err : goal.returns-in_err-push_band-clause-err
returns-in_err-push_band-clause-err c = on_err c.from_residual.result (keeps_more _ _ _ _ c.loop-band.invariant.done c.in_err-push_band.ensures.err)

pub returns-clause-ok : goal.returns-clause-ok
returns-clause-ok c = bands_made _ _ c.args.bands.now c.loop-band.band-index (search rules) c.loop-band.invariant.done
