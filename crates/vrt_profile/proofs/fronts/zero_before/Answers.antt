use Rattle.std.proofs.Common.{◌∷◌, arith}
use Rattle.vrt_profile.proofs.ZeroFronts.{zero_front}
use Rattle.vrt_profile.proofs.fronts.zero_before.Goals as goal

pub returns-clause-front : goal.returns-clause-front
returns-clause-front c =
    let zero = c.in_ok-behind_byte in
    let mark = c.in_ok-exponent in
    let run = c.in_ok-count in
    zero_front c.args.text.now zero.field-0.now mark.exponent.now c.behind_sign.result.now (44 ∷ run.behind.now) mark.field-0-0 run.field-0-0 run.count zero.ensures.behind mark.ensures.mark mark.ensures.behind c.behind_sign.ensures.behind run.ensures.digits run.ensures.some (omega (arith, c.if-count-gt3.false))
