use Rattle.std.proofs.Common.{rules, to_z, of_z}
use Rattle.std.specs.Prelude.{option_map}
use Rattle.std.specs.Int.{w128}
use Rattle.vrt_writing.proofs.Pieces.{on_err}
use Rattle.vrt_writing.proofs.Listed.{keeps_appends_three, four_both, scaling_made}
use Rattle.vrt_writing.proofs.spelling.push_scaling.Goals as goal

pub returns-in_err-push_lut-clause-err : goal.returns-in_err-push_lut-clause-err
returns-in_err-push_lut-clause-err c = on_err c.from_residual-in_err-push_lut.result (keeps_appends_three _ _ _ _ _ _ _ _ _ c.in_ok-push_nodata.ensures.ok c.in_ok-push_scale.ensures.ok c.in_ok-push_scale-2.ensures.ok c.in_err-push_lut.ensures.err)

pub returns-clause-ok : goal.returns-clause-ok
returns-clause-ok c = scaling_made _ _ c.args.source.now c.nodata.result (to_z w128 (of_z w128 c.offset.result)) (to_z w128 (of_z w128 c.ratio.result)) (option_map (λ t. t.now) c.lut.result) (four_both _ _ _ _ _ _ _ _ _ _ c.in_ok-push_nodata.ensures.ok c.in_ok-push_scale.ensures.ok c.in_ok-push_scale-2.ensures.ok c.in_ok-push_lut.ensures.ok) (search rules) (search rules) (search rules) (search rules)
